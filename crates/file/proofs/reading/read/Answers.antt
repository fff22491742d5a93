use Rattle.std.proofs.Common.{◌≡◌, ℕ, ◌%◌, ◌<◌, ◌≤◌, ◌≢◌, Bool, true, false, cond, ◌&&◌, eqb, leb, List, map, length, drop, is_ok, Some, sym, ap, ◌∙◌, arith}
use Rattle.std.proofs.lemmas.Bool.{and_from, eq-eqb, ne_eqb, le-leb, lt-leb, cond-true, cond-false, not_from_true, not_from_false}
use Rattle.table.specs.declared.fault.Damage.{Damage}
use Rattle.table.specs.declared.fault.Damage.TheVariants.{Length, Head}
use Rattle.table.specs.declared.fault.Fault.{Fault}
use Rattle.table.specs.declared.fault.Layer.TheVariants.{File}
use Rattle.table.specs.Chain.{Contents}
use Rattle.table.specs.Faults.{fault}
use Rattle.table.specs.Tables.{empty}
use Rattle.arithmetic.specs.Causes.{first_cause}
use Rattle.file.specs.Reading.{word_at, length_fits, head_fits, pair_count, read_tests}
use Rattle.file.specs.Rows.{record_of, rows_of}
use Rattle.file.proofs.Decoding.{held, judged, length_records_in}
use Rattle.file.proofs.Rowing.{rows_short, rows_long, head_words, others_count, others_records}
use Rattle.file.proofs.reading.read.Goals as goal
use Rattle.file.proofs.reading.read.Goals.{then-head-count-via-then-head-count, then-head-count-via-else-head-count+then-head-ne0}

module _ (xs : List ℕ) (whole : length xs % 16 ≡ 0) where
  short : length xs < 16 → length_fits (length xs) ≡ false
  short h =
      let n = length xs in
      ap (λ (a : Bool). (a && leb 16 n) && leb n 16384) (eq-eqb (n % 16) 0 whole) ∙ ap (λ (a : Bool). a && leb n 16384) (lt-leb 16 n h)

  long : 16 ≤ length xs → length xs ≤ 16384 → length_fits (length xs) ≡ true
  long low high = and_from _ _ (and_from _ _ (eq-eqb (length xs % 16) 0 whole) (le-leb 16 (length xs) low)) (le-leb (length xs) 16384 high)

  -- a fault of the head alone, as it was made
  at_head : (f : Fault) (d : Damage) → f.«record» ≡ 0 → f.layer ≡ File d → Some f ≡ Some (fault 0 (File d))
  at_head f d number layer = λ i. Some (record { «record» = number i; layer = layer i })

  of_length : (f : Fault) → f.«record» ≡ 0 → f.layer ≡ File Length → length xs < 16 → Some f ≡ first_cause (read_tests xs)
  of_length f number layer h =
      at_head f Length number layer ∙ sym (cond-true _ _ _ (not_from_false (length_fits (length xs)) (short h)))

  of_head : (f : Fault) → f.«record» ≡ 0 → f.layer ≡ File Head → 16 ≤ length xs → length xs ≤ 16384 → head_fits xs ≡ false
      → Some f ≡ first_cause (read_tests xs)
  of_head f number layer low high bad =
      at_head f Head number layer
      ∙ sym (cond-false _ _ _ (not_from_true (length_fits (length xs)) (long low high)) ∙ cond-true _ _ _ (not_from_false (head_fits xs) bad))

-- the head tells another number than there is, or its last word is not 0
other_count : (xs : List ℕ) (told : ℕ) → told ≡ word_at xs 8 → told ≢ pair_count xs → head_fits xs ≡ false
other_count xs told is ne = ap (λ (a : Bool). a && eqb (word_at xs 12) 0) (ne_eqb (word_at xs 8) (pair_count xs) (λ e. ne (is ∙ e)))

not_zero : (xs : List ℕ) (told zero : ℕ) → told ≡ word_at xs 8 → told ≡ pair_count xs → zero ≡ word_at xs 12 → zero ≢ 0 → head_fits xs ≡ false
not_zero xs told zero is e last ne =
    ap (λ (a : Bool). a && eqb (word_at xs 12) 0) (eq-eqb (word_at xs 8) (pair_count xs) (sym is ∙ e)) ∙ ne_eqb (word_at xs 12) 0 (λ z. ne (last ∙ z))

pub returns-in_default-clause-answer : goal.returns-in_default-clause-answer
returns-in_default-clause-answer c =
    let f = c.at-in_default in
    of_length c.args.bytes.now c.if-bytes-ne0.false f.result f.ensures.number f.ensures.layer (rows_short c.args.bytes.now c.in_default.ensures.steps.0)

pub overflow_sub-count : goal.overflow_sub-count
overflow_sub-count c = omega (arith, rows_long c.args.bytes.now c.in-Some.head _ c.in-Some.ensures.steps)

pub returns-then-head-count-clause-answer : goal.returns-then-head-count-clause-answer
returns-then-head-count-clause-answer c =
    let xs = c.args.bytes.now in
    let f = c.at-then-head-count in
    let words = head_words xs c.in-Some.head _ c.in-Some.ensures.steps in
    let low = rows_long xs c.in-Some.head _ c.in-Some.ensures.steps in
    of_head xs c.if-bytes-ne0.false f.result f.ensures.number f.ensures.layer low c.if-bytes-gt16384.false
    (elim c.then-head-count.branch [
      | then-head-count-via-then-head-count w ↦ other_count xs c.in-Some.head.generator words.2 w.if-head-count.true
      | then-head-count-via-else-head-count+then-head-ne0 w ↦
          not_zero xs c.in-Some.head.generator c.in-Some.head.residue words.2 w.if-head-count.false words.3 w.if-head-ne0.true
    ])

pub hold-requires : goal.hold-requires
hold-requires c = record { few = omega (arith, others_count c.args.bytes.now c.in-Some.head _ c.in-Some.ensures.steps) }

pub returns-clause-answer : goal.returns-clause-answer
returns-clause-answer c =
    let xs = c.args.bytes.now in
    let head = c.in-Some.head in
    let steps = c.in-Some.ensures.steps in
    let words = head_words xs head _ steps in
    let rs = map record_of (rows_of c.next.new.self.0.now) in
    let records = others_records xs head _ steps in
    let fits : head_fits xs ≡ true =
    and_from _ _ (eq-eqb (word_at xs 8) (pair_count xs) (sym words.2 ∙ c.if-head-count.false)) (eq-eqb (word_at xs 12) 0 (sym words.3 ∙ c.if-head-ne0.false))
    in
    c.hold.ensures.answer
    ∙ judged xs head.next head.modulus rs (long xs c.if-bytes-ne0.false (rows_long xs head _ steps) c.if-bytes-gt16384.false) fits
    (held xs head.next head.modulus rs words.0 words.1 records) (ap length records ∙ length_records_in (pair_count xs) (drop 16 xs))

pub returns-clause-after : goal.returns-clause-after
returns-clause-after c =
    let xs = c.args.bytes.now in
    let words = head_words xs c.in-Some.head _ c.in-Some.ensures.steps in
    c.hold.ensures.after
    ∙ ap (λ (t : Contents). cond (is_ok c.hold.result) t (empty 2))
    (held xs c.in-Some.head.next c.in-Some.head.modulus (map record_of (rows_of c.next.new.self.0.now)) words.0 words.1
    (others_records xs c.in-Some.head _ c.in-Some.ensures.steps))
