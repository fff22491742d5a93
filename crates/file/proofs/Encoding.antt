-- What was encoded is decoded to the same, where its words are words.
-- Main statements: decode-encode, listing_read.
-- Assumes nothing.
use Rattle.std.proofs.Common.{◌≡◌, ℕ, ◌+◌, ◌*◌, ◌/◌, ◌%◌, ◌^◌, ◌<◌, ◌≤◌, Bool, true, not, ◌&&◌, eqb, leb, List, [], ◌∷◌, ◌++◌, length, get_or, drop, is_some, Some, None, Option, sym, refl, ap, ◌∙◌, mod-eq_of_lt, arith}
use native.Mathlib.Nat.{mod-add-div, div-div-eq-div-mul}
use Rattle.std.specs.List.{flat_map, AllByRecursion as All}
use Rattle.std.proofs.ByRecursion.{All-from_get_or}
use Rattle.std.proofs.lemmas.List.{drop_at}
use Rattle.std.proofs.lemmas.Bool.{and_parts, and_from, leb-true, le-leb, eq-eqb, not_from_true}
use Rattle.table.specs.declared.pair.Record.{Record}
use Rattle.table.specs.declared.fault.Fault.{Fault}
use Rattle.table.specs.Chain.{Contents, head, rows}
use Rattle.table.specs.Faults.{chain_tests}
use Rattle.arithmetic.specs.Causes.{first_cause, index_stands}
use Rattle.table.specs.Fitness.{record_fits, record_waits}
use Rattle.arithmetic.proofs.Causes.{all_fail, none_first}
use Rattle.table.proofs.Judged.{Sound, chain_sound, links_within}
use Rattle.table.proofs.Listed.{pair_fits}
use Rattle.table.proofs.Records.{every_at}
use Rattle.file.specs.Layout.{word_bytes, row_bytes, residue_word, record_bytes, encode}
use Rattle.file.specs.Reading.{word_at, residue_of, record_at, records_in, pair_count, decode, length_fits, head_fits, read_tests}
use Rattle.file.proofs.Placing.{length_row, length-encode}

-- a word from its four bytes
word_again : (w : ℕ) → w < 2 ^ 32 → w % 256 + w / 256 % 256 * 256 + w / 65536 % 256 * 65536 + w / 16777216 % 256 * 16777216 ≡ w
word_again w h =
    let a = w / 256 in
    let b = a / 256 in
    let d = b / 256 in
    let e2 : w / 65536 ≡ b = sym (div-div-eq-div-mul w 256 256) in
    let e3 : w / 16777216 ≡ d = sym (div-div-eq-div-mul w 65536 256) ∙ ap (λ (x : ℕ). x / 256) e2 in
    let m0 = mod-add-div w 256 in
    let m1 = mod-add-div a 256 in
    let m2 = mod-add-div b 256 in
    let top : d % 256 ≡ d = mod-eq_of_lt (omega arith) in
    ap (λ (x : ℕ). w % 256 + w / 256 % 256 * 256 + x % 256 * 65536 + w / 16777216 % 256 * 16777216) e2
    ∙ ap (λ (x : ℕ). w % 256 + w / 256 % 256 * 256 + b % 256 * 65536 + x % 256 * 16777216) e3
    ∙ omega arith

-- the words of a row that stands first
module _ (a b c d : ℕ) (rest : List ℕ) where
  row_word_0 : a < 2 ^ 32 → word_at (row_bytes a b c d ++ rest) 0 ≡ a
  unfolding word_at row_bytes word_bytes
  row_word_0 h = word_again a h

  row_word_4 : b < 2 ^ 32 → word_at (row_bytes a b c d ++ rest) 4 ≡ b
  unfolding word_at row_bytes word_bytes
  row_word_4 h = word_again b h

  row_word_8 : c < 2 ^ 32 → word_at (row_bytes a b c d ++ rest) 8 ≡ c
  unfolding word_at row_bytes word_bytes
  row_word_8 h = word_again c h

  row_word_12 : d < 2 ^ 32 → word_at (row_bytes a b c d ++ rest) 12 ≡ d
  unfolding word_at row_bytes word_bytes
  row_word_12 h = word_again d h

  row_rest : drop 16 (row_bytes a b c d ++ rest) ≡ rest
  row_rest = drop_at (row_bytes a b c d) rest 16 (length_row a b c d)

-- a record of words, which waits
abbrev pub Worded : Record → Type 0
Worded r = (r.next < 2 ^ 32) × (r.modulus < 2 ^ 32) × (r.generator < 2 ^ 32) × (r.residue ≡ None)

record_again : (r : Record) (rest : List ℕ) → Worded r → record_at (record_bytes r ++ rest) ≡ r
unfolding record_at
record_again r rest h =
    let a = r.next in
    let b = r.modulus in
    let c = r.generator in
    let d = residue_word r.residue in
    let mark : d ≡ 4294967295 = ap residue_word h.3 in
    let e0 = row_word_0 a b c d rest h.0 in
    let e1 = row_word_4 a b c d rest h.1 in
    let e2 = row_word_8 a b c d rest h.2 in
    let e3 : residue_of (word_at (record_bytes r ++ rest) 12) ≡ r.residue =
    ap residue_of (row_word_12 a b c d rest (omega arith) ∙ mark) ∙ sym h.3
    in
    λ i. record { next = e0 i; modulus = e1 i; generator = e2 i; residue = e3 i }

records_again : (rs : List Record) → All Worded rs → records_in (length rs) (flat_map record_bytes rs) ≡ rs
unfolding records_in
records_again [] h = refl
records_again (r ∷ rs) h =
    let rest = flat_map record_bytes rs in
    let tail : drop 16 (record_bytes r ++ rest) ≡ rest = row_rest r.next r.modulus r.generator (residue_word r.residue) rest in
    ap (λ (x : Record). x ∷ records_in (length rs) (drop 16 (record_bytes r ++ rest))) (record_again r rest h.0)
    ∙ ap (λ (xs : List ℕ). r ∷ records_in (length rs) xs) tail
    ∙ ap (λ (xs : List Record). r ∷ xs) (records_again rs h.1)

-- a table of words, whose records all wait
abbrev pub WordTable : Contents → Type 0
WordTable t = (t.first < 2 ^ 32) × (t.index < 2 ^ 32) × (length t.records < 2 ^ 32) × All Worded t.records

count_again : (t : Contents) → pair_count (encode t) ≡ length t.records
count_again t = omega (arith, length-encode t)

pub decode-encode : (t : Contents) → WordTable t → decode (encode t) ≡ t
unfolding decode
decode-encode t h =
    let row = row_bytes t.first t.index (length t.records) 0 in
    let body = flat_map record_bytes t.records in
    let e0 : word_at (encode t) 0 ≡ t.first = unfold encode in row_word_0 t.first t.index (length t.records) 0 body h.0 in
    let e1 : word_at (encode t) 4 ≡ t.index = unfold encode in row_word_4 t.first t.index (length t.records) 0 body h.1 in
    let tail : drop 16 (encode t) ≡ body = unfold encode in row_rest t.first t.index (length t.records) 0 body in
    let e2 : records_in (pair_count (encode t)) (drop 16 (encode t)) ≡ t.records =
    ap (λ (n : ℕ). records_in n (drop 16 (encode t))) (count_again t)
    ∙ ap (records_in (length t.records)) tail
    ∙ records_again t.records h.3
    in
    λ i. record { first = e0 i; index = e1 i; records = e2 i }

-- its head and length fit
told_again : (t : Contents) → length t.records < 2 ^ 32 → word_at (encode t) 8 ≡ length t.records
unfolding encode
told_again t h = row_word_8 t.first t.index (length t.records) 0 (flat_map record_bytes t.records) h

zero_again : (t : Contents) → word_at (encode t) 12 ≡ 0
unfolding encode
zero_again t = row_word_12 t.first t.index (length t.records) 0 (flat_map record_bytes t.records) (omega arith)

pub head_again : (t : Contents) → WordTable t → head_fits (encode t) ≡ true
head_again t h =
    and_from _ _ (eq-eqb (word_at (encode t) 8) (pair_count (encode t)) (told_again t h.2 ∙ sym (count_again t)))
    (eq-eqb (word_at (encode t) 12) 0 (zero_again t))

pub length_again : (t : Contents) → length t.records ≤ 1023 → length_fits (length (encode t)) ≡ true
length_again t h =
    let n = length t.records in
    let e = length-encode t in
    and_from _ _ (and_from _ _ (eq-eqb (length (encode t) % 16) 0 (omega arith)) (le-leb 16 (length (encode t)) (omega arith))) (le-leb (length (encode t)) 16384 (omega arith))

-- a record that a table may hold, and that waits
none_from : (o : Option ℕ) → not (is_some o) ≡ true → o ≡ None
none_from None h = refl
none_from (Some x) h = absurd (let z : ◌≡◌ {A = ℕ} 0 1 = cc in omega arith)

worded_from : (k : ℕ) (r : Record) → index_stands k ≡ true → r.next < 2 ^ 32 → record_fits k r ≡ true → record_waits r ≡ true → Worded r
worded_from k r stands next fits waits =
    let fit = pair_fits k r stands fits in
    (next, omega (arith, fit.0.2), omega (arith, fit.0.2, fit.1.1), none_from r.residue waits)

-- what a table holds is made of words
pub word_table : (t : Contents) → length t.records ≤ 1023 → index_stands t.index ≡ true → Sound t.first t.index t.records → WordTable t
word_table t few stands sound =
    let rs = t.records in
    let links = links_within t.first rs sound.0 in
    let top = leb-true t.index 2147483646 (and_parts (eqb (t.index % 2) 0 && leb 2 t.index) (leb t.index 2147483646) stands).1 in (
      omega (arith, links.0),
      omega arith,
      omega arith,
      All-from_get_or Worded rs (head 0)
          (λ i h.
          worded_from t.index (get_or rs i (head 0)) stands (omega (arith, links.1 i h)) (every_at (record_fits t.index) rs i (head 0) sound.1 h)
          (every_at record_waits rs i (head 0) sound.2 h)),
    )

-- the bytes of a listing have no fault
pub listing_read : (t : Contents) → length t.records ≤ 1023 → index_stands t.index ≡ true → Sound t.first t.index t.records
    → (first_cause (read_tests (encode t)) ≡ None) × (decode (encode t) ≡ t)
listing_read t few stands sound =
    let words = word_table t few stands sound in
    let back = decode-encode t words in
    let n = length t.records in
    let tests : Contents → ℕ → List (Bool × Fault) = λ u c. chain_tests (rows u.first u.records) u.index c c 0 in
    let chain : first_cause (tests (decode (encode t)) (pair_count (encode t))) ≡ None =
    ap (λ (u : Contents). first_cause (tests u (pair_count (encode t)))) back
    ∙ ap (λ (c : ℕ). first_cause (tests t c)) (count_again t)
    ∙ chain_sound t.first t.index t.records sound
    in (
      none_first (read_tests (encode t)) (
        not_from_true (length_fits (length (encode t))) (length_again t few),
        (
          not_from_true (head_fits (encode t)) (head_again t words),
          (
            not_from_true (index_stands (decode (encode t)).index) (ap (λ (u : Contents). index_stands u.index) back ∙ stands),
            all_fail (tests (decode (encode t)) (pair_count (encode t))) chain,
          ),
        ),
      ),
      back,
    )
