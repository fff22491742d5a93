-- What counting on promises.
-- Assumes nothing.
use Rattle.std.specs.Prelude.{◌≡◌, ℕ, ◌+◌, ◌%◌, Bool, true, false, not, ◌≢◌, List, [], ◌∷◌, length, Ok, Err, Result, ◌==◌}
use Rattle.theory.specs.declared.kind.Kind.{Kind}
use Rattle.theory.specs.declared.kind.Kind.TheVariants.{Direct, Doubling}
use Rattle.theory.specs.Doubling.{row_length_of}
use Rattle.arithmetic.specs.declared.refusal.Refusal.{Refusal}
use Rattle.arithmetic.specs.declared.refusal.Refusal.TheVariants.{CellCount, OtherArithmetic, OtherSource, Share, DirectRun, NoTermLeft}
use Rattle.digits.specs.Counts.{capped}
use Rattle.run.specs.declared.state.Run.{Run}
use Rattle.run.specs.Calls.{left_of, unfit_share}
use Rattle.run.specs.Counting.{groups_of, Zeroes}
use Rattle.run.specs.Places.{kind_of}

abbrev pub is_direct : Kind → Bool
is_direct Direct = true
is_direct Doubling = false

-- counting on by c terms, with so many cells, an arithmetic of modulus m and a source of modulus s
abbrev pub count_causes : Run → ℕ → ℕ → ℕ → ℕ → List (Bool × Refusal)
count_causes run cells m s c =
    (not (cells == 256), CellCount) ∷ (not (m == run.modulus), OtherArithmetic) ∷ (not (s == run.modulus), OtherSource)
    ∷ (unfit_share c, Share) ∷ (is_direct (kind_of run.progress), DirectRun) ∷ ((left_of run == 0), NoTermLeft) ∷ []

-- 256 cells are zero after the call, whatever it answers; any other number of cells is as it was
pub record Lent (before after : List ℕ) : Type 0 where
  pub zeroes : length before ≡ 256 → Zeroes after
  pub same : length before ≢ 256 → after ≡ before

-- the source's count has risen by the groups of the share, up to its cap; a refusal leaves the source as it was
abbrev pub Read : {S : Type 0} → (S → ℕ) → (S → ℕ) → Run → S → S → Result ℕ Refusal → Type 0
Read modulus taken run before after (Ok n) =
    (modulus after ≡ modulus before)
    × (taken after ≡ capped (taken before + groups_of 8 (row_length_of run.modulus) (run.taken % row_length_of run.modulus) n))
Read modulus taken run before after (Err e) = after ≡ before
