-- Stretches of a row: terms on end.
-- Assumes nothing.
use Rattle.std.specs.Prelude.{ℕ, ◌*◌, ◌/◌, ◌%◌, ◌^◌}
use Rattle.theory.specs.Residues.{signed}
use Rattle.theory.specs.Sums.{sum}

-- the sum of n terms on end in a row, from the point x and the weight v: each point is twice the one before it, and each
-- weight r times the one before it
unfoldable pub stretch : ℕ → ℕ → ℕ → ℕ → ℕ → ℕ
stretch p r x v n = sum n (λ j. signed p (2 * (2 ^ j * x % p) / p) (v * r ^ j))
