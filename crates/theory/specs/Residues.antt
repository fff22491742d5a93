-- Residues modulo p, told as numbers from 0 to p − 1.
-- Assumes nothing.
use Rattle.std.specs.Prelude.{ℕ, zero, suc, ◌+◌, ◌-◌, ◌%◌, ◌^◌}

-- the residue of a − b
abbrev pub minus : ℕ → ℕ → ℕ → ℕ
minus p a b = (a % p + (p - b % p)) % p

-- 1/a: the residue of a^(p − 2), which gives 1 with a where p is prime and a is not 0
unfoldable pub inverse : ℕ → ℕ → ℕ
inverse p a = a ^ (p - 2) % p

-- the residue of n under the sign of a binary digit: n itself under 0, else −n
abbrev pub signed : ℕ → ℕ → ℕ → ℕ
signed p zero n = n % p
signed p (suc d) n = minus p 0 n
