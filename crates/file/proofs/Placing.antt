-- Bytes placed one after another into an output whose rest stays.
-- Main statements: placed, spelled, length-encode.
-- Assumes nothing.
use Rattle.std.proofs.Common.{◌≡◌, ℕ, ◌+◌, ◌*◌, List, [], ◌∷◌, ◌++◌, length, take, drop, Some, None, Option, unwrap_or, sym, refl, ap, ◌∙◌, append_assoc, arith, length-append}
use Rattle.std.proofs.lemmas.List.{take_at, drop_at, drop-drop}
use Rattle.std.specs.List.{flat_map}
use Rattle.table.specs.declared.pair.Record.{Record}
use Rattle.table.specs.Chain.{Contents}
use Rattle.file.specs.Layout.{word_bytes, row_bytes, residue_word, record_bytes, encode}

-- the front stands, the rest is as it was, and bytes are put behind the front
pub placed : (front bytes out out' was : List ℕ) (at n end : ℕ) → end ≡ at + n → length front ≡ at → out ≡ front ++ drop at was
    → out' ≡ take at out ++ (bytes ++ drop (at + n) out) → out' ≡ (front ++ bytes) ++ drop end was
placed front bytes out out' was at n end e long before put =
    let taken : take at out ≡ front = ap (take at) before ∙ take_at front (drop at was) at long in
    let left : drop (at + n) out ≡ drop end was =
    sym (drop-drop n at out)
    ∙ ap (λ (xs : List ℕ). drop n (drop at xs)) before
    ∙ ap (drop n) (drop_at front (drop at was) at long)
    ∙ drop-drop n at was
    ∙ ap (λ (i : ℕ). drop i was) (sym e)
    in
    put
    ∙ ap (λ (xs : List ℕ). xs ++ (bytes ++ drop (at + n) out)) taken
    ∙ ap (λ (xs : List ℕ). front ++ (bytes ++ xs)) left
    ∙ sym (append_assoc front bytes (drop end was))

pub length_word : (w : ℕ) → length (word_bytes w) ≡ 4
unfolding word_bytes
length_word w = refl

pub length_row : (a b c d : ℕ) → length (row_bytes a b c d) ≡ 16
unfolding row_bytes word_bytes
length_row a b c d = refl

pub length_records : (rs : List Record) → length (flat_map record_bytes rs) ≡ 16 * length rs
length_records [] = refl
length_records (r ∷ rs) =
    length-append (record_bytes r) (flat_map record_bytes rs)
    ∙ omega (arith, length_row r.next r.modulus r.generator (residue_word r.residue), length_records rs)

-- a residue read with the empty mark for none
pub spelled : (r : Record) (v : ℕ) → v ≡ unwrap_or r.residue 4294967295 → row_bytes r.next r.modulus r.generator v ≡ record_bytes r
spelled r v e = ap (row_bytes r.next r.modulus r.generator) (e ∙ word r.residue)
  where
    word : (o : Option ℕ) → unwrap_or o 4294967295 ≡ residue_word o
    word None = refl
    word (Some x) = refl

pub length-encode : (t : Contents) → length (encode t) ≡ 16 * (length t.records + 1)
unfolding encode
length-encode t =
    length-append (row_bytes t.first t.index (length t.records) 0) (flat_map record_bytes t.records)
    ∙ omega (arith, length_row t.first t.index (length t.records) 0, length_records t.records)
