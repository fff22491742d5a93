-- Where a run stands before its first term, and why opening refuses.
-- Main statements: sum_start, direct_started, kind_after, started_kept, pair_cause_first.
-- Assumes nothing.
use Rattle.std.proofs.Common.{◌≡◌, ℕ, ◌-◌, ◌*◌, ◌/◌, ◌%◌, ◌^◌, ◌≤◌, Bool, true, false, not, ◌&&◌, eqb, ◌≢◌, [], ◌∷◌, Some, sym, refl, ap, ◌∙◌, ap₂, mod-eq_of_lt, arith, eq-eqb, ne_eqb}
use native.Mathlib.Nat.{zero-div, zero-mod}
use Rattle.theory.specs.declared.kind.Kind.{Kind}
use Rattle.theory.specs.declared.kind.Kind.TheVariants.{Direct, Doubling}
use Rattle.theory.specs.Direct.{direct_point, direct_weight}
use Rattle.theory.specs.Doubling.{row_length_of, doubling_point, doubling_weight}
use Rattle.theory.specs.Pairs.{FitModulus}
use Rattle.theory.specs.Kinds.{partial_sum, can_run}
use Rattle.theory.proofs.Modular.{direct_point_first, direct_weight_zero, direct_sum_zero, doubling_sum_zero, doubling_point_first, doubling_weight_first}
use Rattle.theory.proofs.OrderOfTwo.{rows_fit_leaves, leaves_rows_fit}
use Rattle.arithmetic.specs.declared.refusal.Refusal.{Refusal}
use Rattle.arithmetic.specs.declared.refusal.Refusal.TheVariants.{NotUsable}
use Rattle.arithmetic.specs.Causes.{first_cause}
use Rattle.arithmetic.proofs.Causes.{first_found}
use Rattle.run.specs.declared.progress.Progress.{Progress}
use Rattle.run.specs.declared.progress.Progress.TheVariants.{Direct as AtDirect, Doubling as AtDoubling}
use Rattle.run.specs.Places.{kind_of, direct_place, row_place, progress_after}
use Rattle.run.specs.Calls.{Started, fit_causes, open_causes}

one_left : (p : ℕ) → 5 ≤ p → 1 % p ≡ 1
one_left p low = mod-eq_of_lt (omega arith)

direct_start : (p g k : ℕ) → 5 ≤ p → AtDirect (record { point = 1; weight = 1 }) ≡ progress_after Direct p g k 0
unfolding progress_after direct_place
direct_start p g k low =
    let point : direct_point p g 1 ≡ 1 = direct_point_first p g ∙ one_left p low in
    let weight : direct_weight p g k 0 ≡ 1 = direct_weight_zero p g k ∙ one_left p low in
    cc

-- a direct run can always be opened, and begins at point 1 with weight 1
pub direct_started : (kind : Kind) (k p : ℕ) → kind ≡ Direct → 5 ≤ p → Started kind k p (Some (AtDirect (record { point = 1; weight = 1 })))
unfolding can_run
direct_started kind k p direct low = (
  ap (λ (x : Kind). can_run x p k) direct,
  sym direct,
  λ g. direct_start p g k low ∙ ap (λ (x : Kind). progress_after x p g k 0) (sym direct),
)

-- 2n' does not divide p − 1 where 2^(p − 1) does not leave 1
pub rows_refused : (p k : ℕ) → FitModulus p → 2 ^ (p - 1) % p ≢ 1 → can_run Doubling p k ≡ false
unfolding can_run
rows_refused p k fit other =
    let test : eqb ((p - 1) % (2 * row_length_of p)) 0 ≡ false =
    ne_eqb ((p - 1) % (2 * row_length_of p)) 0 (λ divides. other (rows_fit_leaves p (p / 2) (omega arith) (omega arith) divides)) in
    ap (λ b. b && not (eqb (2 ^ k % p) 1)) test

pub index_refused : (p k : ℕ) → 2 ^ k % p ≡ 1 → can_run Doubling p k ≡ false
unfolding can_run
index_refused p k one =
    ap (λ b. eqb ((p - 1) % (2 * row_length_of p)) 0 && not b) (eq-eqb (2 ^ k % p) 1 one) ∙ and_false (eqb ((p - 1) % (2 * row_length_of p)) 0)
  where
    and_false : (b : Bool) → (b && false) ≡ false
    and_false true = refl
    and_false false = refl

first_place : ℕ → Progress
first_place n = AtDoubling (record { row_length = n; place = 0; row_point = 1; row_weight = 1; point = 1; weight = 1 })

doubling_start : (p g k : ℕ) → 5 ≤ p → first_place (row_length_of p) ≡ progress_after Doubling p g k 0
unfolding first_place progress_after row_place
doubling_start p g k low =
    let row : 0 / row_length_of p ≡ 0 = zero-div (row_length_of p) in
    let place : 0 % row_length_of p ≡ 0 = zero-mod (row_length_of p) in
    let point : doubling_point p g 0 0 ≡ 1 = doubling_point_first p g ∙ one_left p low in
    let weight : doubling_weight p g k 0 0 ≡ 1 = doubling_weight_first p g k ∙ one_left p low in
    cc

-- a usable doubling run begins at the first place of the first row
pub doubling_started : (n k p : ℕ) → n ≡ row_length_of p → FitModulus p → 2 ^ (p - 1) % p ≡ 1 → 2 ^ k % p ≢ 1
    → Started Doubling k p (Some (AtDoubling (record { row_length = n; place = 0; row_point = 1; row_weight = 1; point = 1; weight = 1 })))
unfolding can_run first_place
doubling_started n k p length fit whole other =
    let rows : eqb ((p - 1) % (2 * row_length_of p)) 0 ≡ true =
    eq-eqb ((p - 1) % (2 * row_length_of p)) 0 (leaves_rows_fit p (p / 2) (omega arith) (omega arith) whole) in
    let index : eqb (2 ^ k % p) 1 ≡ false = ne_eqb (2 ^ k % p) 1 other in
    (ap₂ (λ a b. a && not b) rows index, refl, λ g. ap first_place length ∙ doubling_start p g k fit.1)

-- before the first term the sum is 0
pub sum_start : (kind : Kind) (p g k : ℕ) → 0 ≡ partial_sum kind p g k 0
unfolding partial_sum
sum_start Direct p g k = sym (direct_sum_zero p g k)
sum_start Doubling p g k = sym (doubling_sum_zero p g k)

-- the place after t terms is one of the run's kind
pub kind_after : (kind : Kind) (p g k t : ℕ) → kind_of (progress_after kind p g k t) ≡ kind
unfolding progress_after
kind_after Direct p g k t = refl
kind_after Doubling p g k t = refl

-- what a run keeps true, where it begins
pub started_kept : (kind : Kind) (k p g : ℕ) (q : Progress) → Started kind k p (Some q) → (can_run (kind_of q) p k ≡ true) × (q ≡ progress_after (kind_of q) p g k 0)
started_kept kind k p g q started =
    let same = started.1 in
    (ap (λ (x : Kind). can_run x p k) same ∙ started.0, started.2 g ∙ ap (λ (x : Kind). progress_after x p g k 0) (sym same))

-- the causes of a pair are tried first
pub pair_cause_first : (kind : Kind) (k p g : ℕ) (e : Refusal) → first_cause (fit_causes k p g) ≡ Some e → first_cause (open_causes kind k p g) ≡ Some e
pair_cause_first kind k p g e refused =
    first_found (fit_causes k p g) ((not (can_run kind p k), NotUsable) ∷ []) e refused
