-- Records decoded one after another, and decoding against encoding.
-- Main statements: records_more, stored, encode-decode, held, judged, read_sound.
-- Assumes nothing.
use Rattle.std.proofs.Common.{◌≡◌, ℕ, zero, suc, ◌+◌, ◌*◌, ◌/◌, ◌%◌, ◌<◌, ◌≤◌, Bool, true, not, ◌&&◌, eqb, leb, List, [], ◌∷◌, ◌++◌, length, get_or, drop, set, None, sym, refl, ap, ◌∙◌, subst, ⊎_elim, append_assoc, arith, length-drop}
use Rattle.std.specs.List.{flat_map}
use Rattle.std.proofs.lemmas.List.{append-nil, drop_all, drop-drop, drop_more, get_or-drop, set_at}
use Rattle.std.proofs.lemmas.Nat.{div-mul-add, mod-mul-add}
use Rattle.std.proofs.lemmas.Bool.{and_parts, cases_eq, cond-true, cond-false, eq-eqb, ne_eqb, eqb-true, leb-true, le-ltb, not-false, not_from_true}
use Rattle.table.specs.declared.pair.Record.{Record}
use Rattle.arithmetic.specs.declared.refusal.Refusal.TheVariants.{Index}
use Rattle.table.specs.declared.fault.Fault.{Fault}
use Rattle.table.specs.declared.fault.Layer.TheVariants.{Job}
use Rattle.table.specs.Chain.{Contents, rows}
use Rattle.table.specs.Faults.{fault, chain_tests, restore_tests}
use Rattle.arithmetic.specs.Causes.{first_cause, index_stands}
use Rattle.table.specs.Tables.{holding}
use Rattle.arithmetic.proofs.Causes.{all_fail, none_first}
use Rattle.table.proofs.Judged.{Sound, sound_chain}
use Rattle.file.specs.Layout.{word_bytes, row_bytes, residue_word, record_bytes, encode}
use Rattle.file.specs.Reading.{word_at, residue_of, record_at, records_in, pair_count, decode, length_fits, head_fits, read_tests}

pub length_records_in : (n : ℕ) (bytes : List ℕ) → length (records_in n bytes) ≡ n
unfolding records_in
length_records_in zero bytes = refl
length_records_in (suc n) bytes = ap suc (length_records_in n (drop 16 bytes))

-- one record more
pub records_more : (n : ℕ) (bytes : List ℕ) → records_in (suc n) bytes ≡ records_in n bytes ++ record_at (drop (16 * n) bytes) ∷ []
unfolding records_in
records_more zero bytes = refl
records_more (suc n) bytes =
    let e : 16 + 16 * n ≡ 16 * suc n = omega arith in
    ap (λ (rs : List Record). record_at bytes ∷ rs)
    (records_more n (drop 16 bytes) ∙ ap (λ (xs : List ℕ). records_in n (drop 16 bytes) ++ record_at xs ∷ []) (drop-drop (16 * n) 16 bytes ∙ ap (λ (i : ℕ). drop i bytes) e))

-- the next record stored behind those that were read
pub stored : (n : ℕ) (bytes : List ℕ) (was into : List Record) (r d : Record) → n < length was → into ≡ records_in n bytes ++ drop n was
    → r ≡ record_at (drop (16 * n) bytes) → set into n r ≡ records_in (n + 1) bytes ++ drop (n + 1) was
stored n bytes was into r d h before is =
    let e : suc n ≡ n + 1 = omega arith in
    ap (λ (xs : List Record). set xs n r) (before ∙ ap (λ (xs : List Record). records_in n bytes ++ xs) (drop_more was n d h))
    ∙ set_at (records_in n bytes) (get_or was n d) (drop (n + 1) was) r n (length_records_in n bytes)
    ∙ sym (append_assoc (records_in n bytes) (r ∷ []) (drop (n + 1) was))
    ∙ ap (λ (x : Record). (records_in n bytes ++ x ∷ []) ++ drop (n + 1) was) is
    ∙ ap (λ (xs : List Record). xs ++ drop (n + 1) was) (sym (records_more n bytes))
    ∙ ap (λ (k : ℕ). records_in k bytes ++ drop (n + 1) was) e

-- the byte b that stands at the unit u in a number
byte : (high u b low w : ℕ) → w ≡ (high * 256 + b) * u + low → b < 256 → low < u → w / u % 256 ≡ b
byte high u b low w e hb hl =
    ap (λ (x : ℕ). x / u % 256) e ∙ ap (λ (x : ℕ). x % 256) (div-mul-add (high * 256 + b) u low hl) ∙ mod-mul-add high 256 b hb

-- four bytes from a word and back
word_back : (a b c d : ℕ) → a < 256 → b < 256 → c < 256 → d < 256
    → word_bytes (a + b * 256 + c * 65536 + d * 16777216) ≡ a ∷ b ∷ c ∷ d ∷ []
unfolding word_bytes
word_back a b c d ha hb hc hd =
    let w = a + b * 256 + c * 65536 + d * 16777216 in
    let low : w ≡ (b + c * 256 + d * 65536) * 256 + a = omega arith in
    let e0 : w % 256 ≡ a = ap (λ (x : ℕ). x % 256) low ∙ mod-mul-add (b + c * 256 + d * 65536) 256 a ha in
    let e1 : w / 256 % 256 ≡ b = byte (c + d * 256) 256 b a w (omega arith) hb (omega arith) in
    let e2 : w / 65536 % 256 ≡ c = byte d 65536 c (a + b * 256) w (omega arith) hc (omega arith) in
    let e3 : w / 16777216 % 256 ≡ d = byte 0 16777216 d (a + b * 256 + c * 65536) w (omega arith) hd (omega arith) in
    λ i. e0 i ∷ e1 i ∷ e2 i ∷ e3 i ∷ []

-- the first four of a list and the rest
four : (xs : List ℕ) → 4 ≤ length xs → xs ≡ get_or xs 0 0 ∷ get_or xs 1 0 ∷ get_or xs 2 0 ∷ get_or xs 3 0 ∷ drop 4 xs
four [] h = absurd (omega arith)
four (a ∷ []) h = absurd (omega arith)
four (a ∷ b ∷ []) h = absurd (omega arith)
four (a ∷ b ∷ c ∷ []) h = absurd (omega arith)
four (a ∷ b ∷ c ∷ d ∷ xs) h = refl

-- all numbers of a list are bytes
abbrev pub Bytes : List ℕ → Type 0
Bytes xs = (i : ℕ) → get_or xs i 0 < 256

pub bytes_drop : (xs : List ℕ) (n : ℕ) → Bytes xs → Bytes (drop n xs)
bytes_drop xs n h i = subst (λ (x : ℕ). x < 256) (sym (get_or-drop n xs i 0)) (h (n + i))

-- the bytes of the word at i, and what follows them
word_over : (xs : List ℕ) (i : ℕ) → Bytes xs → i + 4 ≤ length xs → word_bytes (word_at xs i) ++ drop (i + 4) xs ≡ drop i xs
unfolding word_at
word_over xs i bytes h =
    let j : i ≡ i + 0 = omega arith in
    let e0 : get_or xs i 0 ≡ get_or (drop i xs) 0 0 = ap (λ (k : ℕ). get_or xs k 0) j ∙ sym (get_or-drop i xs 0 0) in
    let e1 : get_or xs (i + 1) 0 ≡ get_or (drop i xs) 1 0 = sym (get_or-drop i xs 1 0) in
    let e2 : get_or xs (i + 2) 0 ≡ get_or (drop i xs) 2 0 = sym (get_or-drop i xs 2 0) in
    let e3 : get_or xs (i + 3) 0 ≡ get_or (drop i xs) 3 0 = sym (get_or-drop i xs 3 0) in
    let e4 : drop (i + 4) xs ≡ drop 4 (drop i xs) = sym (drop-drop 4 i xs) in
    ap (λ (ys : List ℕ). ys ++ drop (i + 4) xs)
    (word_back (get_or xs i 0) (get_or xs (i + 1) 0) (get_or xs (i + 2) 0) (get_or xs (i + 3) 0) (bytes i) (bytes (i + 1)) (bytes (i + 2)) (bytes (i + 3)))
    ∙ (λ k. e0 k ∷ e1 k ∷ e2 k ∷ e3 k ∷ e4 k)
    ∙ sym (four (drop i xs) (omega (arith, length-drop i xs)))

-- a row's bytes, and what follows them
row_over : (xs : List ℕ) → Bytes xs → 16 ≤ length xs
    → row_bytes (word_at xs 0) (word_at xs 4) (word_at xs 8) (word_at xs 12) ++ drop 16 xs ≡ xs
unfolding row_bytes
row_over xs bytes h =
    let w = λ (i : ℕ). word_bytes (word_at xs i) in
    append_assoc (w 0) (w 4 ++ (w 8 ++ w 12)) (drop 16 xs)
    ∙ ap (λ (ys : List ℕ). w 0 ++ ys)
    (append_assoc (w 4) (w 8 ++ w 12) (drop 16 xs)
    ∙ ap (λ (ys : List ℕ). w 4 ++ ys)
    (append_assoc (w 8) (w 12) (drop 16 xs)
    ∙ ap (λ (ys : List ℕ). w 8 ++ ys) (word_over xs 12 bytes (omega arith))
    ∙ word_over xs 8 bytes (omega arith))
    ∙ word_over xs 4 bytes (omega arith))
    ∙ word_over xs 0 bytes (omega arith)

-- a residue word from its reading
word_of_residue : (w : ℕ) → residue_word (residue_of w) ≡ w
word_of_residue w =
    ⊎_elim
    (λ (e : w ≡ 4294967295). ap residue_word (cond-true _ _ _ (eq-eqb w 4294967295 e)) ∙ sym e)
    (λ (ne : w ≡ 4294967295 → ⊥). ap residue_word (cond-false _ _ _ (ne_eqb w 4294967295 ne)))
    (cases_eq w 4294967295)

record_over : (xs : List ℕ) → Bytes xs → 16 ≤ length xs → record_bytes (record_at xs) ++ drop 16 xs ≡ xs
unfolding record_at
record_over xs bytes h =
    ap (λ (w : ℕ). row_bytes (word_at xs 0) (word_at xs 4) (word_at xs 8) w ++ drop 16 xs) (word_of_residue (word_at xs 12)) ∙ row_over xs bytes h

records_over : (n : ℕ) (xs : List ℕ) → Bytes xs → 16 * n ≤ length xs → flat_map record_bytes (records_in n xs) ++ drop (16 * n) xs ≡ xs
unfolding records_in
records_over zero xs bytes h = refl
records_over (suc n) xs bytes h =
    let e : 16 * suc n ≡ 16 + 16 * n = omega arith in
    let rest = flat_map record_bytes (records_in n (drop 16 xs)) in
    append_assoc (record_bytes (record_at xs)) rest (drop (16 * suc n) xs)
    ∙ ap (λ (ys : List ℕ). record_bytes (record_at xs) ++ (rest ++ ys)) (ap (λ (i : ℕ). drop i xs) e ∙ sym (drop-drop (16 * n) 16 xs))
    ∙ ap (λ (ys : List ℕ). record_bytes (record_at xs) ++ ys) (records_over n (drop 16 xs) (bytes_drop xs 16 bytes) (omega (arith, length-drop 16 xs)))
    ∙ record_over xs bytes (omega arith)

-- bytes whose length and head fit are those of the table in them
pub encode-decode : (xs : List ℕ) → Bytes xs → length_fits (length xs) ≡ true → head_fits xs ≡ true → encode (decode xs) ≡ xs
unfolding encode decode
encode-decode xs bytes long head =
    let a = and_parts _ _ long in
    let b = and_parts _ _ a.0 in
    let whole = eqb-true (length xs % 16) 0 b.0 in
    let some = leb-true 16 (length xs) b.1 in
    let told = and_parts _ _ head in
    let n = pair_count xs in
    let count : length (records_in n (drop 16 xs)) ≡ word_at xs 8 = length_records_in n (drop 16 xs) ∙ sym (eqb-true (word_at xs 8) n told.0) in
    let zeros : 0 ≡ word_at xs 12 = sym (eqb-true (word_at xs 12) 0 told.1) in
    let rest = flat_map record_bytes (records_in n (drop 16 xs)) in
    let none : drop (16 * n) (drop 16 xs) ≡ [] = drop_all (16 * n) (drop 16 xs) (omega (arith, length-drop 16 xs)) in
    let body : rest ≡ drop 16 xs =
    sym (append-nil rest)
    ∙ ap (λ (ys : List ℕ). rest ++ ys) (sym none)
    ∙ records_over n (drop 16 xs) (bytes_drop xs 16 bytes) (omega (arith, length-drop 16 xs))
    in
    ap (λ (k : ℕ). row_bytes (word_at xs 0) (word_at xs 4) k 0 ++ rest) count
    ∙ ap (λ (k : ℕ). row_bytes (word_at xs 0) (word_at xs 4) (word_at xs 8) k ++ rest) zeros
    ∙ ap (λ (ys : List ℕ). row_bytes (word_at xs 0) (word_at xs 4) (word_at xs 8) (word_at xs 12) ++ ys) body
    ∙ row_over xs bytes some

-- the table that was put together is the one in the bytes
pub held : (xs : List ℕ) (first index : ℕ) (rs : List Record) → first ≡ word_at xs 0 → index ≡ word_at xs 4
    → rs ≡ records_in (pair_count xs) (drop 16 xs) → holding first index rs ≡ decode xs
unfolding decode
held xs first index rs a b c = λ i. record { first = a i; index = b i; records = c i }

-- what is left of the tests, once length and head fit
left_tests : Contents → ℕ → List (Bool × Fault)
left_tests t n = (not (index_stands t.index), fault 0 (Job Index)) ∷ chain_tests (rows t.first t.records) t.index n n 0

-- and the tests that the table made are those of the bytes
pub judged : (xs : List ℕ) (first index : ℕ) (rs : List Record) → length_fits (length xs) ≡ true → head_fits xs ≡ true
    → holding first index rs ≡ decode xs → length rs ≡ pair_count xs → first_cause (restore_tests first index rs) ≡ first_cause (read_tests xs)
unfolding left_tests
judged xs first index rs long head same count =
    let top = leb-true (length xs) 16384 (and_parts (eqb (length xs % 16) 0 && leb 16 (length xs)) (leb (length xs) 16384) long).1 in
    cond-false _ _ _ (le-ltb 1023 (length rs) (omega (arith, top)))
    ∙ ap (λ (n : ℕ). first_cause (left_tests (holding first index rs) n)) count
    ∙ ap (λ (t : Contents). first_cause (left_tests t (pair_count xs))) same
    ∙ sym (cond-false _ _ _ (not_from_true (length_fits (length xs)) long) ∙ cond-false _ _ _ (not_from_true (head_fits xs) head))

-- bytes without a fault: length and head fit, and the table in them is one that may be held
pub read_sound : (xs : List ℕ) → first_cause (read_tests xs) ≡ None
    → (length_fits (length xs) ≡ true) × (head_fits xs ≡ true) × Sound (decode xs).first (decode xs).index (decode xs).records
unfolding decode
read_sound xs h =
    let all = all_fail (read_tests xs) h in
    let n = pair_count xs in
    let rs = records_in n (drop 16 xs) in
    let count : n ≡ length rs = sym (length_records_in n (drop 16 xs)) in
    let tests : ℕ → List (Bool × Fault) = λ k. chain_tests (rows (word_at xs 0) rs) (word_at xs 4) k k 0 in (
      not-false (length_fits (length xs)) all.0,
      not-false (head_fits xs) all.1.0,
      sound_chain (word_at xs 0) (word_at xs 4) rs (ap (λ (k : ℕ). first_cause (tests k)) (sym count) ∙ none_first (tests n) all.1.1.1),
    )
