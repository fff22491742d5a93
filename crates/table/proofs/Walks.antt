-- A walk along links, step by step.
-- Main statements: met_on, met_none, met_over, met_some_pair, no_pair_past, place_met.
-- Assumes nothing.
use Rattle.std.proofs.Common.{◌≡◌, ℕ, zero, suc, ◌+◌, ◌<◌, ◌≤◌, Bool, true, false, cond, nat_lt, List, [], ◌∷◌, map, length, take, Some, None, Option, sym, refl, ap, ◌∙◌, ⊎_elim, arith}
use Rattle.std.specs.List.{slice_get, last_or, prefix_len, take_while}
use Rattle.std.specs.Option.{option_map, option_map_or}
use Rattle.std.proofs.lemmas.Bool.{cases_lt, lt-ltb, le-ltb}
use Rattle.std.proofs.lemmas.List.{length-map}
use Rattle.std.proofs.lemmas.Option.{slice_get-map}
use Rattle.table.specs.declared.pair.Pair.{Pair}
use Rattle.table.specs.declared.pair.Record.{Record}
use Rattle.table.specs.Chain.{chained, rises, walk, place, rows, row, head, next_in, modulus_in, pair_in, pairs_along, numbered}
use Rattle.table.specs.Walk.{met_first, met}
use Rattle.table.proofs.Chains.{Step, rises_step, place_on, place_here, place_end, length-walk}
use Rattle.table.proofs.Records.{numbered_at, nth_past, row_at}

-- no record has the number, or no step is left
pub met_none : (rs : List Record) (left i : ℕ) → numbered rs i ≡ None → met rs left i ≡ []
unfolding met
met_none rs zero i h = refl
met_none rs (suc left) i h = ap (met_first i (met rs left)) h

pub met_over : (rs : List Record) (left i : ℕ) → left ≡ 0 → met rs left i ≡ []
unfolding met
met_over rs left i h = ap (λ (n : ℕ). met rs n i) h

-- a record has it
pub met_on : (rs : List Record) (left others i : ℕ) (r : Record) → others + 1 ≡ left → numbered rs i ≡ Some r
    → met rs left i ≡ (i, r) ∷ met rs others r.next
unfolding met
met_on rs zero others i r e h = absurd (omega arith)
met_on rs (suc left) others i r e h =
    let same : left ≡ others = omega arith in
    ap (met_first i (met rs left)) h ∙ ap (λ (n : ℕ). (i, r) ∷ met rs n r.next) same

-- along a rising chain each step is met
module _ (first : ℕ) (rs : List Record) where
  numbered_row : (n : ℕ) → 1 ≤ n → n ≤ length rs → numbered rs n ≡ Some (row (rows first rs) n)
  numbered_row n low high = numbered_at rs n (head 0) low high ∙ ap (λ (r : Record). Some r) (sym (row_at first rs n low))

  met_step : (steps i : ℕ) → Step (next_in (rows first rs)) (modulus_in (rows first rs)) (length rs) i
      → met rs (suc steps) (next_in (rows first rs) i)
      ≡ (next_in (rows first rs) i, row (rows first rs) (next_in (rows first rs) i)) ∷ met rs steps (next_in (rows first rs) (next_in (rows first rs) i))
  met_step steps i s =
      met_on rs (suc steps) steps (next_in (rows first rs) i) (row (rows first rs) (next_in (rows first rs) i)) (omega arith)
      (numbered_row (next_in (rows first rs) i) s.0 s.1)

  met_walk : (steps i : ℕ) → rises (next_in (rows first rs)) (modulus_in (rows first rs)) (length rs) steps i ≡ true
      → met rs steps (next_in (rows first rs) i) ≡ map (λ (j : ℕ). (j, row (rows first rs) j)) (walk (next_in (rows first rs)) steps i)
  unfolding met walk
  met_walk zero i up = refl
  met_walk (suc steps) i up =
      let step = rises_step (next_in (rows first rs)) (modulus_in (rows first rs)) (length rs) steps i up in
      met_step steps i step.0
      ∙ ap (λ (xs : List (ℕ × Record)). (next_in (rows first rs) i, row (rows first rs) (next_in (rows first rs) i)) ∷ xs) (met_walk steps (next_in (rows first rs) i) step.1)

  pair_of : ℕ × Record → Pair
  pair_of x = record { modulus = x.1.modulus; generator = x.1.generator }

  at_row : ℕ → ℕ × Record
  at_row j = (j, row (rows first rs) j)

  both : (o : Option ℕ) → option_map pair_of (option_map at_row o) ≡ option_map (pair_in (rows first rs)) o
  unfolding pair_of at_row
  both None = refl
  both (Some j) = refl

  -- a pair is that of the record which is met at its position
  met_pair : (i : ℕ) (o : Option (ℕ × Record)) → chained first rs ≡ true → o ≡ slice_get (met rs (length rs) first) i
      → slice_get (pairs_along first rs) i ≡ option_map pair_of o
  unfolding chained pairs_along at_row
  met_pair i o up h =
      let ws = walk (next_in (rows first rs)) (length rs) 0 in
      slice_get-map (pair_in (rows first rs)) ws i
      ∙ sym (both (slice_get ws i))
      ∙ ap (option_map pair_of) (sym (slice_get-map at_row ws i) ∙ ap (λ (xs : List (ℕ × Record)). slice_get xs i) (sym (met_walk (length rs) 0 up)) ∙ sym h)

  pub met_no_pair : (i : ℕ) → chained first rs ≡ true → None ≡ slice_get (met rs (length rs) first) i → slice_get (pairs_along first rs) i ≡ None
  met_no_pair i up h = met_pair i None up h

  pub met_some_pair : (i : ℕ) (x : ℕ × Record) → chained first rs ≡ true → Some x ≡ slice_get (met rs (length rs) first) i
      → slice_get (pairs_along first rs) i ≡ Some (record { modulus = x.1.modulus; generator = x.1.generator })
  unfolding pair_of
  met_some_pair i x up h = met_pair i (Some x) up h

  length_along : length (pairs_along first rs) ≡ length rs
  unfolding pairs_along
  length_along = length-map (walk (next_in (rows first rs)) (length rs) 0) (pair_in (rows first rs)) ∙ length-walk (next_in (rows first rs)) (length rs) 0

  -- there are as many pairs as records
  pub no_pair_past : (i : ℕ) → length rs ≤ i → slice_get (pairs_along first rs) i ≡ None
  no_pair_past i h = nth_past (pairs_along first rs) i (omega (arith, length_along))

-- the number of the last of them, or else n
abbrev pub last_number : ℕ → List (ℕ × Record) → ℕ
last_number n [] = n
last_number n (x ∷ xs) = last_number x.0 xs

pub last_number-or : (n : ℕ) (o : Option (ℕ × Record)) (xs : List (ℕ × Record)) → option_map_or (λ (x : ℕ × Record). x.0) (last_or o xs) n ≡ last_number (option_map_or (λ (x : ℕ × Record). x.0) o n) xs
last_number-or n o [] = refl
last_number-or n o (x ∷ xs) = last_number-or n (Some x) xs

-- the records before one of the modulus p or more
abbrev pub below : ℕ → ℕ × Record → Bool
below p x = nat_lt x.1.modulus p

module _ (first : ℕ) (rs : List Record) (p : ℕ) where
  -- the place of p is after the last record below it
  met_place : (steps i : ℕ) → rises (next_in (rows first rs)) (modulus_in (rows first rs)) (length rs) steps i ≡ true
      → last_number i (take_while (below p) (met rs steps (next_in (rows first rs) i))) ≡ place (next_in (rows first rs)) (modulus_in (rows first rs)) p steps i
  unfolding met
  met_place zero i up = sym (place_end (next_in (rows first rs)) (modulus_in (rows first rs)) p i)
  met_place (suc steps) i up =
      let n = next_in (rows first rs) in
      let m = modulus_in (rows first rs) in
      let step = rises_step n m (length rs) steps i up in
      let x : ℕ × Record = (n i, row (rows first rs) (n i)) in
      let rest = met rs steps (n (n i)) in
      let here : last_number i (take_while (below p) (met rs (suc steps) (n i))) ≡ last_number i (take_while (below p) (x ∷ rest)) =
      ap (λ (xs : List (ℕ × Record)). last_number i (take_while (below p) xs)) (met_step first rs steps i step.0)
      in
      ⊎_elim
      (λ (h : m (n i) < p).
      let more : 1 + prefix_len (below p) rest ≡ suc (prefix_len (below p) rest) = omega arith in
      let yes : below p x ≡ true = lt-ltb (m (n i)) p h in
      here
      ∙ ap (λ (b : Bool). last_number i (take (cond b (1 + prefix_len (below p) rest) 0) (x ∷ rest))) yes
      ∙ ap (λ (k : ℕ). last_number i (take k (x ∷ rest))) more
      ∙ met_place steps (n i) step.1
      ∙ sym (place_on n m p steps i h))
      (λ (h : p ≤ m (n i)).
      let no : below p x ≡ false = le-ltb (m (n i)) p h in
      here
      ∙ ap (λ (b : Bool). last_number i (take (cond b (1 + prefix_len (below p) rest) 0) (x ∷ rest))) no
      ∙ sym (place_here n m p steps i h))
      (cases_lt (m (n i)) p)

  -- as the calls tell it
  pub place_met : (o : Option (ℕ × Record)) → chained first rs ≡ true → o ≡ last_or None (take_while (below p) (met rs (length rs) first))
      → option_map_or (λ (x : ℕ × Record). x.0) o 0 ≡ place (next_in (rows first rs)) (modulus_in (rows first rs)) p (length rs) 0
  unfolding chained
  place_met o up h =
      ap (λ (l : Option (ℕ × Record)). option_map_or (λ (x : ℕ × Record). x.0) l 0) h
      ∙ last_number-or 0 None (take_while (below p) (met rs (length rs) first))
      ∙ met_place (length rs) 0 up
