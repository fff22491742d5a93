-- A chain that rises in as many steps as there are records meets each of them once.
-- Main statements: met_once, of_each, apart, next_within.
-- Assumes nothing.
use Rattle.std.proofs.Common.{◌≡◌, ℕ, zero, suc, ◌+◌, ◌<◌, ◌≤◌, true, cond, eqb, ◌≢◌, sym, refl, ap, ◌∙◌, subst, ⊎_elim, arith}
use Rattle.std.proofs.lemmas.Bool.{eq-eqb, ne_eqb, cases_eq, cases_lt, cond-true, cond-false}
use Rattle.std.specs.List.{AllByRecursion as All}
use Rattle.theory.specs.Sums.{sum}
use Rattle.table.specs.Chain.{rises, walk}
use Rattle.table.proofs.Chains.{Step, rises_step, rises_end}

-- 1 where two numbers are the same, else 0
same : ℕ → ℕ → ℕ
same i j = cond (eqb i j) 1 0

same_is : (i j : ℕ) → i ≡ j → same i j ≡ 1
unfolding same
same_is i j e = cond-true _ _ _ (eq-eqb i j e)

same_not : (i j : ℕ) → i ≢ j → same i j ≡ 0
unfolding same
same_not i j h = cond-false _ _ _ (ne_eqb i j h)

-- how often so many steps from the record i meet the record j
pub times : (ℕ → ℕ) → ℕ → ℕ → ℕ → ℕ
times next zero i j = 0
times next (suc steps) i j = same (next i) j + times next steps (next i) j

sum_both : (n : ℕ) (f g : ℕ → ℕ) → sum n (λ j. f j + g j) ≡ sum n f + sum n g
unfolding sum
sum_both zero f g = refl
sum_both (suc n) f g = omega (arith, sum_both n f g)

sum_nothing : (n : ℕ) (f : ℕ → ℕ) → ((j : ℕ) → j < n → f j ≡ 0) → sum n f ≡ 0
unfolding sum
sum_nothing zero f h = refl
sum_nothing (suc n) f h = omega (arith, sum_nothing n f (λ j l. h j (omega arith)), h n (omega arith))

-- exactly one of the numbers 1 to n is i
sum_same : (n i : ℕ) → 1 ≤ i → i ≤ n → sum n (λ j. same i (suc j)) ≡ 1
unfolding sum
sum_same zero i low high = omega arith
sum_same (suc n) i low high =
    ⊎_elim
    (λ (e : i ≡ suc n).
    omega (arith, same_is i (suc n) e, sum_nothing n (λ j. same i (suc j)) (λ j l. same_not i (suc j) (λ e'. omega arith))))
    (λ (ne : i ≡ suc n → ⊥). omega (arith, same_not i (suc n) ne, sum_same n i low (omega arith)))
    (cases_eq i (suc n))

sum_under : (n : ℕ) (f : ℕ → ℕ) → ((j : ℕ) → j < n → f j ≤ 1) → sum n f ≤ n
unfolding sum
sum_under zero f h = omega arith
sum_under (suc n) f h = omega (arith, sum_under n f (λ j l. h j (omega arith)), h n (omega arith))

-- numbers of at most 1 that add up to as many as they are, are all 1
sum_full : (n : ℕ) (f : ℕ → ℕ) → ((j : ℕ) → j < n → f j ≤ 1) → sum n f ≡ n → (j : ℕ) → j < n → f j ≡ 1
unfolding sum
sum_full zero f h e j l = omega arith
sum_full (suc n) f h e j l =
    let rest = sum_under n f (λ k m. h k (omega arith)) in
    let last = h n (omega arith) in
    ⊎_elim
    (λ (k : j < n). sum_full n f (λ k m. h k (omega arith)) (omega arith) j k)
    (λ (k : n ≤ j). let here : j ≡ n = omega arith in ap f here ∙ omega arith)
    (cases_lt j n)

module _ (next modulus : ℕ → ℕ) (count : ℕ) where
  -- every step meets one record
  times_all : (steps i : ℕ) → rises next modulus count steps i ≡ true → sum count (λ j. times next steps i (suc j)) ≡ steps
  unfolding times
  times_all zero i up = sum_nothing count (λ j. 0) (λ j l. refl)
  times_all (suc steps) i up =
      let step = rises_step next modulus count steps i up in
      let s : Step next modulus count i = step.0 in
      sum_both count (λ j. same (next i) (suc j)) (λ j. times next steps (next i) (suc j))
      ∙ omega (arith, sum_same count (next i) s.0 s.1, times_all steps (next i) step.1)

  -- no record of a modulus that is not above comes again
  times_none : (steps i j : ℕ) → modulus j ≤ modulus i → rises next modulus count steps i ≡ true → times next steps i j ≡ 0
  unfolding times
  times_none zero i j low up = refl
  times_none (suc steps) i j low up =
      let step = rises_step next modulus count steps i up in
      let s : Step next modulus count i = step.0 in
      omega (arith, same_not (next i) j (λ e. omega (arith, ap modulus e)), times_none steps (next i) j (omega arith) step.1)

  times_one : (steps i j : ℕ) → rises next modulus count steps i ≡ true → times next steps i j ≤ 1
  unfolding times
  times_one zero i j up = omega arith
  times_one (suc steps) i j up =
      let step = rises_step next modulus count steps i up in
      ⊎_elim
      (λ (e : next i ≡ j).
      omega (arith, same_is (next i) j e, times_none steps (next i) j (omega (arith, ap modulus e)) step.1))
      (λ (ne : next i ≡ j → ⊥). omega (arith, same_not (next i) j ne, times_one steps (next i) j step.1))
      (cases_eq (next i) j)

  -- each record is met, and once
  pub met_once : (i j : ℕ) → rises next modulus count count i ≡ true → 1 ≤ j → j ≤ count → times next count i j ≡ 1
  met_once i zero up low high = omega arith
  met_once i (suc j) up low high =
      sum_full count (λ k. times next count i (suc k)) (λ k l. times_one count i (suc k) up) (times_all count i up) j (omega arith)

  -- what holds of each record on the way holds of one that is met
  on_way : (Q : ℕ → Type 0) (steps i j : ℕ) → All Q (walk next steps i) → times next steps i j ≡ 1 → Q j
  unfolding times walk
  on_way Q zero i j all e = absurd (omega arith)
  on_way Q (suc steps) i j all e =
      ⊎_elim
      (λ (here : next i ≡ j). subst Q here all.0)
      (λ (ne : next i ≡ j → ⊥). on_way Q steps (next i) j all.1 (omega (arith, same_not (next i) j ne)))
      (cases_eq (next i) j)

  -- what holds of each record on the chain holds of every record
  pub of_each : (Q : ℕ → Type 0) → rises next modulus count count 0 ≡ true → All Q (walk next count 0) → (j : ℕ) → 1 ≤ j → j ≤ count → Q j
  of_each Q up all j low high = on_way Q count 0 j all (met_once 0 j up low high)

  one_of_two : (steps i j k : ℕ) → rises next modulus count steps i ≡ true → times next steps i j ≡ 1 → times next steps i k ≡ 1
      → modulus j ≡ modulus k → j ≡ k
  unfolding times
  one_of_two zero i j k up a b e = omega arith
  one_of_two (suc steps) i j k up a b e =
      let step = rises_step next modulus count steps i up in
      ⊎_elim
      (λ (here : next i ≡ j).
      ⊎_elim
      (λ (also : next i ≡ k). sym here ∙ also)
      (λ (ne : next i ≡ k → ⊥).
      omega (arith, same_not (next i) k ne, times_none steps (next i) k (omega (arith, ap modulus here)) step.1))
      (cases_eq (next i) k))
      (λ (ne : next i ≡ j → ⊥).
      ⊎_elim
      (λ (here : next i ≡ k).
      omega (arith, same_not (next i) j ne, times_none steps (next i) j (omega (arith, ap modulus here)) step.1))
      (λ (nor : next i ≡ k → ⊥).
      one_of_two steps (next i) j k step.1 (omega (arith, same_not (next i) j ne)) (omega (arith, same_not (next i) k nor)) e)
      (cases_eq (next i) k))
      (cases_eq (next i) j)

  -- two records have two moduli
  pub apart : rises next modulus count count 0 ≡ true → (j k : ℕ) → 1 ≤ j → j ≤ count → 1 ≤ k → k ≤ count → modulus j ≡ modulus k → j ≡ k
  apart up j k a b c d e = one_of_two count 0 j k up (met_once 0 j up a b) (met_once 0 k up c d) e

module _ (next modulus : ℕ → ℕ) (count : ℕ) where
  links : (steps i : ℕ) → rises next modulus count steps i ≡ true → (next i ≤ count) × All (λ j. next j ≤ count) (walk next steps i)
  unfolding walk
  links zero i up = (omega (arith, rises_end next modulus count i up), tt)
  links (suc steps) i up =
      let step = rises_step next modulus count steps i up in
      (step.0.1, links steps (next i) step.1)

  -- every link leads to a record or ends the chain
  pub next_within : rises next modulus count count 0 ≡ true → (i : ℕ) → i ≤ count → next i ≤ count
  next_within up zero h = (links count 0 up).0
  next_within up (suc i) h = of_each next modulus count (λ j. next j ≤ count) up (links count 0 up).1 (suc i) (omega arith) h
