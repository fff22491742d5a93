-- The pairs along the chain of a table are those of its records.
-- Main statements: along_length, pair_listed, pairs_differ, filled_pairs.
-- Assumes nothing.
use Rattle.std.proofs.Common.{◌≡◌, ℕ, zero, suc, ◌-◌, ◌<◌, ◌≤◌, true, ◌≢◌, List, map, length, get_or, set, is_some, Some, None, sym, refl, ap, ◌∙◌, subst, ⊎_elim, arith}
use mathlib.Core.Path.{fun_ext}
use Rattle.std.specs.List.{slice_get}
use Rattle.std.proofs.lemmas.List.{length-map, length-set, get_or-map, get_or-set_same, get_or-set_other}
use Rattle.std.proofs.lemmas.Option.{slice_get-get_or}
use Rattle.std.proofs.lemmas.Bool.{cases_eq, cases_lt}
use Rattle.arithmetic.proofs.Causes.{none_since}
use Rattle.table.specs.declared.pair.Pair.{Pair}
use Rattle.table.specs.declared.pair.Record.{Record}
use Rattle.table.specs.Chain.{rises, chained, rows, row, head, next_in, modulus_in, pair_in, walk, pairs_along, number_of}
use Rattle.table.specs.Filling.{with_residue}
use Rattle.table.proofs.Chains.{rises_step, length-walk, walk_within}
use Rattle.table.proofs.Listed.{moduli_differ}
use Rattle.table.proofs.Records.{nth_past, row_at, unlisted}
use Rattle.book.specs.Worked.{record_of}
use Rattle.book.proofs.Lookups.{record_has, record_place, listed_record}

-- moduli rise along a walk
module _ (next modulus : ℕ → ℕ) (count : ℕ) where
  walk_step : (steps i j : ℕ) → rises next modulus count steps i ≡ true → suc j < steps
      → modulus (get_or (walk next steps i) j 0) < modulus (get_or (walk next steps i) (suc j) 0)
  unfolding walk
  walk_step zero i j up h = absurd (omega arith)
  walk_step (suc zero) i j up h = absurd (omega arith)
  walk_step (suc (suc steps)) i zero up h =
      let s = rises_step next modulus count (suc steps) i up in
      (rises_step next modulus count steps (next i) s.1).0.2
  walk_step (suc (suc steps)) i (suc j) up h =
      walk_step (suc steps) (next i) j (rises_step next modulus count (suc steps) i up).1 (omega arith)

  walk_rises : (steps i : ℕ) → rises next modulus count steps i ≡ true → (a b : ℕ) → a < b → b < steps
      → modulus (get_or (walk next steps i) a 0) < modulus (get_or (walk next steps i) b 0)
  walk_rises steps i up a zero low high = absurd (omega arith)
  walk_rises steps i up a (suc b) low high =
      let last = walk_step steps i b up high in
      ⊎_elim
      (λ (h : a < b). omega (arith, last, walk_rises steps i up a b h (omega arith)))
      (λ (h : b ≤ a). let e : a ≡ b = omega arith in subst (λ (n : ℕ). modulus (get_or (walk next steps i) n 0) < modulus (get_or (walk next steps i) (suc b) 0)) (sym e) last)
      (cases_lt a b)

module _ (first : ℕ) (rs : List Record) (up : chained first rs ≡ true) where
  -- every record is the one of its modulus
  record_found : (i : ℕ) → i < length rs → record_of rs (get_or rs i (head 0)).modulus ≡ Some (get_or rs i (head 0))
  record_found i within =
      let p = (get_or rs i (head 0)).modulus in
      ⊎_elim
      (λ (at : (j : ℕ) × (j < length rs) × (record_of rs p ≡ Some (get_or rs j (head 0)))).
      let j = moduli_differ first rs up at.0 i at.1 within (record_has rs p _ at.2) in
      at.2 ∙ ap (λ (n : ℕ). Some (get_or rs n (head 0))) j)
      (λ (none : record_of rs p ≡ None).
      absurd (unlisted first rs p (none_since (number_of rs p) (listed_record rs p ∙ ap is_some none)) (suc i) (omega arith) within refl))
      (record_place rs p)

  pub along_length : length (pairs_along first rs) ≡ length rs
  unfolding pairs_along
  along_length =
      length-map (walk (next_in (rows first rs)) (length rs) 0) (pair_in (rows first rs)) ∙ length-walk (next_in (rows first rs)) (length rs) 0

  -- the number of the record at that position of the chain
  number_at : ℕ → ℕ
  number_at i = get_or (walk (next_in (rows first rs)) (length rs) 0) i 0

  -- the pair at that position is the one of that record
  pair_at : (i : ℕ) → i < length rs
      → (1 ≤ number_at i) × (number_at i ≤ length rs) × (slice_get (pairs_along first rs) i ≡ Some (pair_in (rows first rs) (number_at i)))
  unfolding number_at pairs_along chained
  pair_at i h =
      let ws = walk (next_in (rows first rs)) (length rs) 0 in
      let w = walk_within (next_in (rows first rs)) (modulus_in (rows first rs)) (length rs) (length rs) 0 i up h in
      let none : Pair = record { modulus = 0; generator = 0 } in (
        w.0,
        w.1,
        slice_get-get_or (pairs_along first rs) i none (omega (arith, along_length))
            ∙ ap (λ (x : Pair). Some x) (get_or-map (pair_in (rows first rs)) ws i 0 none (omega (arith, length-walk (next_in (rows first rs)) (length rs) 0))),
      )

  -- a position at which there is a pair
  position_within : (i : ℕ) (x : Pair) → slice_get (pairs_along first rs) i ≡ Some x → i < length rs
  position_within i x is =
      ⊎_elim
      (λ (h : i < length rs). h)
      (λ (h : length rs ≤ i).
      let past : None ≡ Some x = sym (nth_past (pairs_along first rs) i (omega (arith, along_length))) ∙ is in
      absurd (let z : ◌≡◌ {A = ℕ} 0 1 = cc in omega arith))
      (cases_lt i (length rs))

  -- and the modulus of that pair
  modulus_at : (i : ℕ) (x : Pair) → slice_get (pairs_along first rs) i ≡ Some x → modulus_in (rows first rs) (number_at i) ≡ x.modulus
  modulus_at i x is =
      let same : Some (pair_in (rows first rs) (number_at i)) ≡ Some x = sym (pair_at i (position_within i x is)).2 ∙ is in
      let pair : pair_in (rows first rs) (number_at i) ≡ x = cc in
      ap (λ (y : Pair). y.modulus) pair

  -- further along the chain the moduli are larger
  rises_along : (i j : ℕ) → i < j → j < length rs → modulus_in (rows first rs) (number_at i) < modulus_in (rows first rs) (number_at j)
  unfolding number_at chained
  rises_along i j = walk_rises (next_in (rows first rs)) (modulus_in (rows first rs)) (length rs) (length rs) 0 up i j

  -- so that two positions have two moduli
  pub pairs_differ : (i j : ℕ) (x y : Pair) → slice_get (pairs_along first rs) i ≡ Some x → slice_get (pairs_along first rs) j ≡ Some y → j ≢ i → y.modulus ≢ x.modulus
  pairs_differ i j x y at_i at_j ne same =
      let mi = modulus_at i x at_i in
      let mj = modulus_at j y at_j in
      ⊎_elim
      (λ (h : i < j). omega (arith, rises_along i j h (position_within j y at_j), mi, mj))
      (λ (h : j ≤ i). omega (arith, rises_along j i (omega (arith, ne)) (position_within i x at_i), mi, mj))
      (cases_lt i j)

  -- a pair of the chain has a record, with its generator
  pub pair_listed : (i : ℕ) (x : Pair) → slice_get (pairs_along first rs) i ≡ Some x
      → (r : Record) × (record_of rs x.modulus ≡ Some r) × (r.generator ≡ x.generator)
  pair_listed i x is =
      let at = pair_at i (position_within i x is) in
      let n = number_at i in
      let r = get_or rs (n - 1) (head 0) in
      let same : Some (pair_in (rows first rs) n) ≡ Some x = sym at.2 ∙ is in
      let pair : pair_in (rows first rs) n ≡ x = cc in
      let row = row_at first rs n at.0 in
      let modulus : r.modulus ≡ x.modulus = ap (λ (y : Record). y.modulus) (sym row) ∙ ap (λ (y : Pair). y.modulus) pair in
      let generator : r.generator ≡ x.generator = ap (λ (y : Record). y.generator) (sym row) ∙ ap (λ (y : Pair). y.generator) pair in
      (r, ap (record_of rs) (sym modulus) ∙ record_found (n - 1) (omega (arith, at.0, at.1)), generator)

-- a record with another residue keeps the pairs along the chain
module _ (first : ℕ) (rs : List Record) (i v : ℕ) (within : i < length rs) where
  other : List Record
  other = set rs i (with_residue (get_or rs i (head 0)) v)

  alike : {X : Type 0} (f : Record → X) → ((r : Record) → f (with_residue r v) ≡ f r) → (j : ℕ) → f (row (rows first other) j) ≡ f (row (rows first rs) j)
  unfolding other
  alike f blind zero = refl
  alike f blind (suc j) =
      ⊎_elim
      (λ (e : j ≡ i).
      ap (λ (k : ℕ). f (get_or other k (head 0))) e
      ∙ ap f (get_or-set_same rs i (with_residue (get_or rs i (head 0)) v) (head 0) within)
      ∙ blind (get_or rs i (head 0))
      ∙ ap (λ (k : ℕ). f (get_or rs k (head 0))) (sym e))
      (λ (ne : j ≡ i → ⊥). ap f (get_or-set_other rs i j (with_residue (get_or rs i (head 0)) v) (head 0) ne))
      (cases_eq j i)

  pub filled_pairs : pairs_along first (set rs i (with_residue (get_or rs i (head 0)) v)) ≡ pairs_along first rs
  unfolding other pairs_along
  filled_pairs =
      let next : next_in (rows first other) ≡ next_in (rows first rs) = fun_ext (alike (λ r. r.next) (λ r. refl)) in
      let pair : pair_in (rows first other) ≡ pair_in (rows first rs) =
      fun_ext (alike (λ (r : Record). let x : Pair = record { modulus = r.modulus; generator = r.generator } in x) (λ r. refl))
      in
      let count : length other ≡ length rs = length-set rs i (with_residue (get_or rs i (head 0)) v) in
      ap (λ (f : ℕ → Pair). map f (walk (next_in (rows first other)) (length other) 0)) pair
      ∙ ap (λ (f : ℕ → ℕ). map (pair_in (rows first rs)) (walk f (length other) 0)) next
      ∙ ap (λ (n : ℕ). map (pair_in (rows first rs)) (walk (next_in (rows first rs)) n 0)) count
