-- What the calls on a run promise.
-- Assumes nothing.
use Rattle.std.specs.Prelude.{◌≡◌, ℕ, ◌+◌, ◌-◌, min, Bool, true, false, not, ◌||◌, List, [], ◌∷◌, ◌++◌, Some, None, Ok, Err, Option, Result, ◌==◌, nat_lt}
use Rattle.theory.specs.declared.kind.Kind.{Kind}
use Rattle.theory.specs.Direct.{terms_of}
use Rattle.theory.specs.Kinds.{can_run}
use Rattle.theory.specs.Pairs.{Fit}
use Rattle.arithmetic.specs.declared.refusal.Refusal.{Refusal}
use Rattle.arithmetic.specs.declared.refusal.Refusal.TheVariants.{NotUsable, OtherArithmetic, Share, NoTermLeft}
use Rattle.arithmetic.specs.Causes.{first_cause, index_causes, pair_causes}
use Rattle.run.specs.declared.state.Run.{Run}
use Rattle.run.specs.declared.progress.Progress.{Progress}
use Rattle.run.specs.Places.{kind_of, progress_after}

-- the run is of this kind, index and pair, and has taken t terms; its partial sum follows from these
pub record Stands (run : Run) (kind : Kind) (k p g t : ℕ) : Type 0 where
  pub kind_is : kind_of run.progress ≡ kind
  pub index_is : run.index ≡ k
  pub modulus_is : run.modulus ≡ p
  pub generator_is : run.generator ≡ g
  pub taken_is : run.taken ≡ t

-- the terms left to take
abbrev pub left_of : Run → ℕ
left_of run = terms_of run.modulus - run.taken

-- an index that no pair serves and a pair that is not fit for it are refused
abbrev pub fit_causes : ℕ → ℕ → ℕ → List (Bool × Refusal)
fit_causes k p g = index_causes k ++ pair_causes k p g

-- else something of its modulus is given
abbrev pub Paired : {X : Type 0} → ℕ → ℕ → ℕ → (X → ℕ) → Result X Refusal → Type 0
Paired k p g modulus_of (Ok x) = (first_cause (fit_causes k p g) ≡ None) × Fit k p g × (modulus_of x ≡ p)
Paired k p g modulus_of (Err e) = first_cause (fit_causes k p g) ≡ Some e

-- opening refuses an unfit pair, then a doubling run that is not usable
abbrev pub open_causes : Kind → ℕ → ℕ → ℕ → List (Bool × Refusal)
open_causes kind k p g = fit_causes k p g ++ ((not (can_run kind p k), NotUsable) ∷ [])

-- where a run begins, or nothing where none of this kind can be opened
abbrev pub Started : Kind → ℕ → ℕ → Option Progress → Type 0
Started kind k p (Some q) = (can_run kind p k ≡ true) × (kind_of q ≡ kind) × ((g : ℕ) → q ≡ progress_after kind p g k 0)
Started kind k p None = can_run kind p k ≡ false

-- opening gives a run that has taken no term, or the first cause
abbrev pub Opened : Kind → ℕ → ℕ → ℕ → Result Run Refusal → Type 0
Opened kind k p g (Ok run) = (first_cause (open_causes kind k p g) ≡ None) × Stands run kind k p g 0
Opened kind k p g (Err e) = first_cause (open_causes kind k p g) ≡ Some e

-- the number of terms asked for is outside 1 to 1048576
abbrev pub unfit_share : ℕ → Bool
unfit_share c = nat_lt c 1 || nat_lt 1048576 c

-- carrying on by c terms, with an arithmetic of modulus m
abbrev pub carry_causes : Run → ℕ → ℕ → List (Bool × Refusal)
carry_causes run m c =
    (not (m == run.modulus), OtherArithmetic) ∷ (unfit_share c, Share) ∷ ((left_of run == 0), NoTermLeft) ∷ []

-- a call that asks for c terms takes its share, the smaller of c and the terms left, and reports it;
-- refused by the first of the causes, it leaves the run as it was
abbrev pub Shared : List (Bool × Refusal) → ℕ → Run → Run → Result ℕ Refusal → Type 0
Shared causes c before after (Ok n) =
    (first_cause causes ≡ None) × (n ≡ min c (left_of before))
    × Stands after (kind_of before.progress) before.index before.modulus before.generator (before.taken + n)
Shared causes c before after (Err e) = (first_cause causes ≡ Some e) × (after ≡ before)
