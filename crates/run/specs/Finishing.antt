-- What finishing promises.
-- Assumes nothing.
use Rattle.std.specs.Prelude.{◌≡◌, ℕ, Bool, not, List, [], ◌∷◌, Some, None, Ok, Err, Result, ◌==◌, nat_lt}
use Rattle.theory.specs.declared.kind.Kind.{Kind}
use Rattle.theory.specs.Kinds.{run_result}
use Rattle.arithmetic.specs.declared.refusal.Refusal.{Refusal}
use Rattle.arithmetic.specs.declared.refusal.Refusal.TheVariants.{OtherArithmetic, TermsLeft}
use Rattle.arithmetic.specs.Causes.{first_cause}
use Rattle.run.specs.declared.finished.FinishedResidue.{FinishedResidue}
use Rattle.run.specs.declared.state.Run.{Run}
use Rattle.run.specs.Places.{kind_of}
use Rattle.run.specs.Calls.{left_of}

-- finishing with an arithmetic of modulus m
abbrev pub finish_causes : Run → ℕ → List (Bool × Refusal)
finish_causes run m = (not (m == run.modulus), OtherArithmetic) ∷ (nat_lt 0 (left_of run), TermsLeft) ∷ []

-- the finished residue is the result of a whole run of this kind, index and pair
pub record ResultOf (f : FinishedResidue) (kind : Kind) (k p g : ℕ) : Type 0 where
  pub kind_is : f.kind ≡ kind
  pub index_is : f.index ≡ k
  pub modulus_is : f.modulus ≡ p
  pub generator_is : f.generator ≡ g
  pub residue_is : f.residue ≡ run_result kind p g k

-- finishing gives the result of the run; refused by the first of the causes, it hands the run back as it was
abbrev pub Finished : Run → ℕ → Result FinishedResidue (Refusal × Run) → Type 0
Finished run m (Ok f) =
    (first_cause (finish_causes run m) ≡ None) × ResultOf f (kind_of run.progress) run.index run.modulus run.generator
Finished run m (Err back) = (first_cause (finish_causes run m) ≡ Some back.0) × (back.1 ≡ run)
