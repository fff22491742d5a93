-- The residue that an element of one of two arithmetics stands for.
-- Assumes nothing.
use Rattle.std.specs.Prelude.{ℕ, Option, Some, None}
use Rattle.either.specs.declared.Either.{Either}
use Rattle.either.specs.Either.{either, left, right}

-- the residue of the element to its own arithmetic: where there is none it is 0
abbrev pub part_residue : {X : Type 0} → (X → ℕ) → Option X → ℕ
part_residue residue (Some x) = residue x
part_residue residue None = 0

-- the residue of an element to whichever arithmetic is there: an element of the other side stands for 0
abbrev pub residue_of : {L R X Y : Type 0} → (L → X → ℕ) → (R → Y → ℕ) → Either L R → Either X Y → ℕ
residue_of on_left on_right w e = either (λ l. part_residue (on_left l) (left e)) (λ r. part_residue (on_right r) (right e)) w
