-- Rows taken from the front, and their records.
-- Main statements: rows_none, rows_some, head_words, others_records.
-- Assumes nothing.
use Rattle.std.proofs.Common.{◌≡◌, ℕ, zero, suc, ◌/◌, ◌<◌, ◌≤◌, List, [], ◌∷◌, map, length, drop, sym, refl, ap, ◌∙◌, ⊎_elim, arith, length-drop}
use Rattle.std.proofs.lemmas.Bool.{cases_lt}
use Rattle.table.specs.declared.pair.Record.{Record}
use Rattle.file.specs.declared.row.Row.{Row}
use Rattle.file.specs.Reading.{word_at, record_at, records_in, pair_count}
use Rattle.file.specs.Rows.{row_at, rows_in, rows_of, record_of}

-- fewer than sixteen bytes have none
pub rows_none : (bytes : List ℕ) → length bytes < 16 → rows_in (length bytes / 16) bytes ≡ []
unfolding rows_in
rows_none bytes h = let e : length bytes / 16 ≡ 0 = omega arith in ap (λ (n : ℕ). rows_in n bytes) e

-- more have one, and those of the rest
pub rows_some : (bytes rest : List ℕ) (row : Row) → 16 ≤ length bytes → row ≡ row_at bytes → rest ≡ drop 16 bytes
    → rows_in (length bytes / 16) bytes ≡ row ∷ rows_in (length rest / 16) rest
unfolding rows_in
rows_some bytes rest row h is left =
    let e : length bytes / 16 ≡ suc (length rest / 16) = omega (arith, ap length left, length-drop 16 bytes) in
    ap (λ (n : ℕ). rows_in n bytes) e
    ∙ (λ i. row_is i ∷ rows_in (length rest / 16) (left_is i))
  where
    row_is : row_at bytes ≡ row
    row_is = sym is

    left_is : drop 16 bytes ≡ rest
    left_is = sym left

-- and the other way round
pub rows_short : (bytes : List ℕ) → rows_of bytes ≡ [] → length bytes < 16
rows_short bytes none =
    ⊎_elim
    (λ (h : length bytes < 16). h)
    (λ (h : 16 ≤ length bytes). absurd (omega (arith, ap length (sym none ∙ rows_some bytes (drop 16 bytes) (row_at bytes) h refl refl))))
    (cases_lt (length bytes) 16)

pub rows_long : (bytes : List ℕ) (row : Row) (rows : List Row) → rows_of bytes ≡ row ∷ rows → 16 ≤ length bytes
rows_long bytes row rows some =
    ⊎_elim
    (λ (h : length bytes < 16). absurd (omega (arith, ap length (sym (rows_none bytes h) ∙ some))))
    (λ (h : 16 ≤ length bytes). h)
    (cases_lt (length bytes) 16)

-- the row of four words that stand first
pub row_of_words : (bytes : List ℕ) (a b c d : ℕ) → a ≡ word_at bytes 0 → b ≡ word_at bytes 4 → c ≡ word_at bytes 8 → d ≡ word_at bytes 12
    → record { next = a; modulus = b; generator = c; residue = d } ≡ row_at bytes
unfolding row_at
row_of_words bytes a b c d p q r s = λ i. record { next = p i; modulus = q i; generator = r i; residue = s i }

-- their records
pub records_of_rows : (n : ℕ) (bytes : List ℕ) → map record_of (rows_in n bytes) ≡ records_in n bytes
unfolding rows_in row_at records_in record_at
records_of_rows zero bytes = refl
records_of_rows (suc n) bytes = ap (λ (rs : List Record). record_of (row_at bytes) ∷ rs) (records_of_rows n (drop 16 bytes))

length-rows_in : (n : ℕ) (bytes : List ℕ) → length (rows_in n bytes) ≡ n
unfolding rows_in
length-rows_in zero bytes = refl
length-rows_in (suc n) bytes = ap suc (length-rows_in n (drop 16 bytes))

-- the head, and the records behind it
module _ (bytes : List ℕ) (head : Row) (others : List Row) (is : rows_of bytes ≡ head ∷ others) where
  parts : (head ≡ row_at bytes) × (others ≡ rows_of (drop 16 bytes))
  parts =
      let e : head ∷ others ≡ row_at bytes ∷ rows_of (drop 16 bytes) = sym is ∙ rows_some bytes (drop 16 bytes) (row_at bytes) (rows_long bytes head others is) refl refl in
      (cc, cc)

  count : length (drop 16 bytes) / 16 ≡ pair_count bytes
  count = omega (arith, length-drop 16 bytes, rows_long bytes head others is)

  pub head_words : (head.next ≡ word_at bytes 0) × (head.modulus ≡ word_at bytes 4) × (head.generator ≡ word_at bytes 8) × (head.residue ≡ word_at bytes 12)
  unfolding row_at
  head_words =
      (ap (λ (r : Row). r.next) parts.0, ap (λ (r : Row). r.modulus) parts.0, ap (λ (r : Row). r.generator) parts.0, ap (λ (r : Row). r.residue) parts.0)

  pub others_count : length others ≡ pair_count bytes
  others_count = ap length parts.1 ∙ length-rows_in (length (drop 16 bytes) / 16) (drop 16 bytes) ∙ count

  pub others_records : map record_of others ≡ records_in (pair_count bytes) (drop 16 bytes)
  others_records =
      ap (map record_of) parts.1
      ∙ records_of_rows (length (drop 16 bytes) / 16) (drop 16 bytes)
      ∙ ap (λ (n : ℕ). records_in n (drop 16 bytes)) count
