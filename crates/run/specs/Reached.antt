-- Where a share takes a run.
-- Assumes nothing.
use Rattle.std.specs.Prelude.{◌≡◌, ℕ, ◌+◌}
use Rattle.theory.specs.Kinds.{partial_sum}
use Rattle.run.specs.declared.progress.Progress.{Progress}
use Rattle.run.specs.declared.state.Run.{Run}
use Rattle.run.specs.Places.{kind_of, progress_after}

-- the sum and the progress of the run after n terms more
abbrev pub Reached : Run → ℕ → ℕ × Progress → Type 0
Reached run n at =
    (at.0 ≡ partial_sum (kind_of run.progress) run.modulus run.generator run.index (run.taken + n))
    × (at.1 ≡ progress_after (kind_of run.progress) run.modulus run.generator run.index (run.taken + n))
