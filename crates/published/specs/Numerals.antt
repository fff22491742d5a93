-- Whole numbers spelled in decimal.
-- Assumes nothing.
use Rattle.std.specs.Prelude.{ℕ, ◌+◌, ◌-◌, ◌*◌, ◌%◌, Bool, cond, List, [], ◌∷◌}
use Rattle.theory.specs.Residues.{minus}

-- the number that digits spell behind the number n: the digit 0 is the byte 48
unfoldable pub spelled : ℕ → List ℕ → ℕ
spelled n [] = n
spelled n (b ∷ bs) = spelled (10 * n + (b - 48)) bs

-- the residue by p of the number that digits spell, or of its negative
abbrev pub signed_residue : ℕ → Bool → List ℕ → ℕ
signed_residue p negative digits = cond negative (minus p 0 (spelled 0 digits)) (spelled 0 digits % p)
