-- How near a guess comes to a whole quotient.
-- Assumes nothing.
use Rattle.std.specs.Prelude.{ℕ, ◌+◌, ◌≤◌}

-- the guess is the quotient or one too small
pub record Near (quotient guess : ℕ) : Type 0 where
  pub low : guess ≤ quotient
  pub high : quotient ≤ guess + 1
