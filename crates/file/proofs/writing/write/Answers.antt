use Rattle.std.proofs.Common.{◌≡◌, ℕ, ◌+◌, ◌*◌, List, ◌++◌, length, drop, sym, refl, ap, ◌∙◌, append_assoc, arith}
use Rattle.std.specs.List.{flat_map}
use Rattle.std.proofs.lemmas.List.{drop-drop}
use Rattle.table.specs.declared.pair.Record.{Record}
use Rattle.table.specs.Chain.{Contents}
use Rattle.table.specs.Tables.{contents}
use Rattle.file.specs.Layout.{row_bytes, record_bytes, encode}
use Rattle.file.proofs.Placing.{length-encode}
use Rattle.file.proofs.writing.write.Goals as goal

-- the head and the records as they were read off the table are its bytes
told : (t : Contents) (first index : ℕ) (slice : List Record) → first ≡ t.first → index ≡ t.index → slice ≡ t.records
    → row_bytes first index (length slice) 0 ++ flat_map record_bytes slice ≡ encode t
unfolding encode
told t first index slice a b d = λ i. row_bytes (a i) (b i) (length (d i)) 0 ++ flat_map record_bytes (d i)

-- the two parts of the output, joined
joined : (n : ℕ) (front row back records others was : List ℕ) → front ≡ row → back ≡ records ++ drop (16 * n) others → others ≡ drop 16 was
    → front ++ back ≡ (row ++ records) ++ drop (16 * (n + 1)) was
joined n front row back records others was a b d =
    let e : 16 + 16 * n ≡ 16 * (n + 1) = omega arith in
    (λ i. a i ++ b i)
    ∙ ap (λ (xs : List ℕ). row ++ (records ++ drop (16 * n) xs)) d
    ∙ ap (λ (xs : List ℕ). row ++ (records ++ xs)) (drop-drop (16 * n) 16 was ∙ ap (λ (k : ℕ). drop k was) e)
    ∙ sym (append_assoc row records (drop (16 * (n + 1)) was))

pub returns-then-output-count : goal.returns-then-output-count
returns-then-output-count c = record { puts = (omega (arith, length-encode (contents c.args.table.now), ap length c.records-records.ensures.value), refl, refl) }

pub returns : goal.returns
returns c =
    let t = contents c.args.table.now in
    let slice = c.records-records.result.now in
    let same = c.records-records.ensures.value in
    let n = length slice in
    let was = c.args.output.now in
    let row = row_bytes c.first.result c.index.result n 0 in
    record {
      puts = (
        omega (arith, length-encode t, ap length same),
        omega arith,
        joined n _ row _ (flat_map record_bytes slice) _ was (c.copy_from_slice.ensures.after ∙ c.to_bytes.ensures.value) c.put_records.ensures.after c.split_at_mut-first.ensures.back
            ∙ ap (λ (xs : List ℕ). xs ++ drop (16 * (n + 1)) was) (told t c.first.result c.index.result slice c.first.ensures.value c.index.ensures.value same),
      );
    }
