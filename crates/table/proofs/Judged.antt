-- The faults along a chain, step by step, and what a chain without a fault is.
-- Main statements: test_early, test_far, test_bad, test_on, test_over, test_end, sound_chain, chain_sound, restored.
-- Assumes nothing.
use Rattle.std.proofs.Common.{◌≡◌, ℕ, zero, suc, ◌<◌, ◌≤◌, Bool, true, false, cond, not, eqb, ◌≢◌, List, [], ◌∷◌, ◌++◌, length, get_or, is_some, Some, None, Option, sym, refl, ◌∙◌, arith}
use Rattle.std.specs.List.{AllByRecursion as All}
use Rattle.std.proofs.lemmas.Bool.{and_parts, and_from, cond-true, cond-false, eq-eqb, ne_eqb, eqb-true, eqb-false, lt-ltb, le-ltb, ltb-false, leb-false, lt-leb, not-false, not_from_true, not_from_false}
use Rattle.std.specs.Option.{option_map}
use Rattle.arithmetic.specs.declared.refusal.Refusal.{Refusal}
use Rattle.table.specs.declared.fault.Damage.TheVariants.{Chain}
use Rattle.table.specs.declared.fault.Fault.{Fault}
use Rattle.table.specs.declared.fault.Layer.TheVariants.{File, Job}
use Rattle.table.specs.declared.pair.Record.{Record}
use Rattle.table.specs.Chain.{rises, chained, walk, rows, row, head, next_in, modulus_in, every}
use Rattle.table.specs.Faults.{fault, of_job, record_tests, chain_tests, restore_tests}
use Rattle.arithmetic.specs.Causes.{first_cause, index_stands, modulus_fits, generator_fits, index_fits}
use Rattle.table.specs.Fitness.{record_fits, record_waits, residue_fits}
use Rattle.table.proofs.Chains.{Step, rises_step, rises_more, rises_end, rises_none}
use Rattle.arithmetic.proofs.Causes.{all_fail, none_first, first_found, first_past}
use Rattle.table.proofs.Meetings.{of_each, next_within}
use Rattle.table.proofs.Records.{every_from, every_at}

-- a record without a fault, after one of the modulus `before`
abbrev pub Passes : ℕ → ℕ → Record → Type 0
Passes k before r = (before < r.modulus) × (record_fits k r ≡ true) × (record_waits r ≡ true)

none_fits : (p : ℕ) (o : Option ℕ) → not (is_some o) ≡ true → residue_fits p o ≡ true
none_fits p None h = refl
none_fits p (Some x) h = absurd (let z : ◌≡◌ {A = ℕ} 0 1 = cc in omega arith)

passes_from : (k before i : ℕ) (r : Record) → first_cause (record_tests k before i r) ≡ None → Passes k before r
unfolding record_fits
passes_from k before i r h =
    let all = all_fail (record_tests k before i r) h in
    let waits : record_waits r ≡ true = not-false (record_waits r) all.1.0 in (
      leb-false r.modulus before all.0,
      and_from _ _
          (and_from _ _ (and_from _ _ (not-false (modulus_fits r.modulus) all.1.1.0) (not-false (generator_fits r.modulus r.generator) all.1.1.1.0))
          (not-false (index_fits r.modulus k) all.1.1.1.1.0))
          (none_fits r.modulus r.residue waits),
      waits,
    )

passes_to : (k before i : ℕ) (r : Record) → Passes k before r → first_cause (record_tests k before i r) ≡ None
unfolding record_fits
passes_to k before i r h =
    let a = and_parts _ _ h.1 in
    let b = and_parts _ _ a.0 in
    let c = and_parts _ _ b.0 in
    none_first (record_tests k before i r) (
      lt-leb r.modulus before h.0,
      (
        not_from_true (record_waits r) h.2,
        (not_from_true (modulus_fits r.modulus) c.0, (not_from_true (generator_fits r.modulus r.generator) c.1, (not_from_true (index_fits r.modulus k) b.1, tt))),
      ),
    )

-- the first cause of a job, as a fault
as_fault : ℕ → Option Refusal → Option Fault
as_fault i o = option_map (λ (r : Refusal). fault i (Job r)) o

by_test : (i : ℕ) (b : Bool) (r : Refusal) (o : Option Refusal) (p : Option Fault) → p ≡ as_fault i o
    → cond b (Some (fault i (Job r))) p ≡ as_fault i (cond b (Some r) o)
unfolding as_fault
by_test i true r o p h = refl
by_test i false r o p h = h

pub job_cause : (i : ℕ) (causes : List (Bool × Refusal)) → first_cause (of_job i causes) ≡ option_map (λ (r : Refusal). fault i (Job r)) (first_cause causes)
unfolding as_fault
job_cause i [] = refl
job_cause i (x ∷ xs) = by_test i x.0 x.1 (first_cause xs) (first_cause (of_job i xs)) (job_cause i xs)

module _ (rs : List Record) (k count : ℕ) where
  -- the chain ends while records are left
  pub test_early : (left i : ℕ) → next_in rs i ≡ 0 → first_cause (chain_tests rs k count (suc left) i) ≡ Some (fault i (File Chain))
  unfolding chain_tests
  test_early left i e = cond-true _ _ _ (eq-eqb (next_in rs i) 0 e)

  -- it leads to a number above the count
  pub test_far : (left i : ℕ) → next_in rs i ≢ 0 → count < next_in rs i → first_cause (chain_tests rs k count (suc left) i) ≡ Some (fault (next_in rs i) (File Chain))
  unfolding chain_tests
  test_far left i ne far = cond-false _ _ _ (ne_eqb (next_in rs i) 0 ne) ∙ cond-true _ _ _ (lt-ltb count (next_in rs i) far)

  stay : (left i : ℕ) → next_in rs i ≢ 0 → next_in rs i ≤ count
      → first_cause (chain_tests rs k count (suc left) i)
      ≡ first_cause (record_tests k (modulus_in rs i) (next_in rs i) (row rs (next_in rs i)) ++ chain_tests rs k count left (next_in rs i))
  unfolding chain_tests
  stay left i ne near = cond-false _ _ _ (ne_eqb (next_in rs i) 0 ne) ∙ cond-false _ _ _ (le-ltb count (next_in rs i) near)

  -- it leads to a record that has a fault
  pub test_bad : (left i : ℕ) (f : Fault) → next_in rs i ≢ 0 → next_in rs i ≤ count
      → first_cause (record_tests k (modulus_in rs i) (next_in rs i) (row rs (next_in rs i))) ≡ Some f
      → first_cause (chain_tests rs k count (suc left) i) ≡ Some f
  test_bad left i f ne near h =
      stay left i ne near
      ∙ first_found (record_tests k (modulus_in rs i) (next_in rs i) (row rs (next_in rs i))) (chain_tests rs k count left (next_in rs i)) f h

  -- it leads to a record without one
  pub test_on : (left i : ℕ) → next_in rs i ≢ 0 → next_in rs i ≤ count
      → first_cause (record_tests k (modulus_in rs i) (next_in rs i) (row rs (next_in rs i))) ≡ None
      → first_cause (chain_tests rs k count (suc left) i) ≡ first_cause (chain_tests rs k count left (next_in rs i))
  test_on left i ne near h =
      stay left i ne near
      ∙ first_past (record_tests k (modulus_in rs i) (next_in rs i) (row rs (next_in rs i))) (chain_tests rs k count left (next_in rs i)) h

  -- it goes on while none is left
  pub test_over : (i : ℕ) → next_in rs i ≢ 0 → first_cause (chain_tests rs k count 0 i) ≡ Some (fault (next_in rs i) (File Chain))
  unfolding chain_tests
  test_over i ne = cond-true _ _ _ (not_from_false _ (ne_eqb (next_in rs i) 0 ne))

  pub test_end : (i : ℕ) → next_in rs i ≡ 0 → first_cause (chain_tests rs k count 0 i) ≡ None
  unfolding chain_tests
  test_end i e = cond-false _ _ _ (not_from_true _ (eq-eqb (next_in rs i) 0 e))

  -- a chain without a fault rises, and each record on it is fit and waits
  sound_from : (left i : ℕ) → first_cause (chain_tests rs k count left i) ≡ None
      → (rises (next_in rs) (modulus_in rs) count left i ≡ true)
      × All (λ j. (record_fits k (row rs j) ≡ true) × (record_waits (row rs j) ≡ true)) (walk (next_in rs) left i)
  unfolding chain_tests walk
  sound_from zero i h =
      let all = all_fail (chain_tests rs k count zero i) h in
      (rises_none (next_in rs) (modulus_in rs) count i (eqb-true (next_in rs i) 0 (not-false (eqb (next_in rs i) 0) all.0)), tt)
  sound_from (suc left) i h =
      let all = all_fail (chain_tests rs k count (suc left) i) h in
      let ne : next_in rs i ≢ 0 = eqb-false (next_in rs i) 0 all.0 in
      let near : next_in rs i ≤ count = ltb-false count (next_in rs i) all.1.0 in
      let tests = record_tests k (modulus_in rs i) (next_in rs i) (row rs (next_in rs i)) in
      let passed : first_cause tests ≡ None = none_first tests (all.1.1.0, (all.1.1.1.0, (all.1.1.1.1.0, (all.1.1.1.1.1.0, (all.1.1.1.1.1.1.0, tt))))) in
      let ok = passes_from k (modulus_in rs i) (next_in rs i) (row rs (next_in rs i)) passed in
      let ih = sound_from left (next_in rs i) (sym (test_on left i ne near passed) ∙ h) in
      (rises_more (next_in rs) (modulus_in rs) count left i (omega arith, near, ok.0) ih.0, ((ok.1, ok.2), ih.1))

  -- and a chain that rises over records that are fit and wait has none
  sound_to : ((j : ℕ) → 1 ≤ j → j ≤ count → (record_fits k (row rs j) ≡ true) × (record_waits (row rs j) ≡ true)) → (left i : ℕ)
      → rises (next_in rs) (modulus_in rs) count left i ≡ true → first_cause (chain_tests rs k count left i) ≡ None
  sound_to each zero i up = test_end i (rises_end (next_in rs) (modulus_in rs) count i up)
  sound_to each (suc left) i up =
      let step = rises_step (next_in rs) (modulus_in rs) count left i up in
      let s : Step (next_in rs) (modulus_in rs) count i = step.0 in
      let ok = each (next_in rs i) s.0 s.1 in
      test_on left i (λ e. omega (arith, e)) s.1 (passes_to k (modulus_in rs i) (next_in rs i) (row rs (next_in rs i)) (s.2, ok.0, ok.1))
      ∙ sound_to each left (next_in rs i) step.1

-- records without a fault: their chain rises, and every one is fit and waits
abbrev pub Sound : ℕ → ℕ → List Record → Type 0
Sound first k rs = (chained first rs ≡ true) × (every (record_fits k) rs ≡ true) × (every record_waits rs ≡ true)

pub sound_chain : (first k : ℕ) (rs : List Record) → first_cause (chain_tests (rows first rs) k (length rs) (length rs) 0) ≡ None → Sound first k rs
unfolding chained
sound_chain first k rs h =
    let s = sound_from (rows first rs) k (length rs) (length rs) 0 h in
    let each = of_each (next_in (rows first rs)) (modulus_in (rows first rs)) (length rs)
    (λ j. (record_fits k (row (rows first rs) j) ≡ true) × (record_waits (row (rows first rs) j) ≡ true)) s.0 s.1
    in (
      s.0,
      every_from (record_fits k) rs (head 0) (λ i l. (each (suc i) (omega arith) (omega arith)).0),
      every_from record_waits rs (head 0) (λ i l. (each (suc i) (omega arith) (omega arith)).1),
    )

pub chain_sound : (first k : ℕ) (rs : List Record) → Sound first k rs → first_cause (chain_tests (rows first rs) k (length rs) (length rs) 0) ≡ None
unfolding chained
chain_sound first k rs s = sound_to (rows first rs) k (length rs) each (length rs) 0 s.0
  where
    each : (j : ℕ) → 1 ≤ j → j ≤ length rs → (record_fits k (row (rows first rs) j) ≡ true) × (record_waits (row (rows first rs) j) ≡ true)
    each zero low high = absurd (omega arith)
    each (suc j) low high = (every_at (record_fits k) rs j (head 0) s.1 (omega arith), every_at record_waits rs j (head 0) s.2 (omega arith))

-- what a table may hold, as the tests of records that come from outside tell it
pub restored : (first k : ℕ) (rs : List Record) → first_cause (restore_tests first k rs) ≡ None
    → (length rs ≤ 1023) × (index_stands k ≡ true) × Sound first k rs
restored first k rs h =
    let all = all_fail (restore_tests first k rs) h in (
      ltb-false 1023 (length rs) all.0,
      not-false (index_stands k) all.1.0,
      sound_chain first k rs (none_first (chain_tests (rows first rs) k (length rs) (length rs) 0) all.1.1),
    )

-- records that a table holds, the numbers of their links and words included
pub links_within : (first : ℕ) (rs : List Record) → chained first rs ≡ true → (first ≤ length rs) × ((i : ℕ) → i < length rs → (get_or rs i (head 0)).next ≤ length rs)
unfolding chained
links_within first rs up =
    let within = next_within (next_in (rows first rs)) (modulus_in (rows first rs)) (length rs) up in
    (within 0 (omega arith), λ i h. within (suc i) h)
