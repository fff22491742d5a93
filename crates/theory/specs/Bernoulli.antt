-- The Bernoulli numbers modulo p, by their recurrence.
-- Assumes nothing.
use Rattle.std.specs.Prelude.{◌≡◌, ℕ, zero, suc, ◌+◌, ◌-◌, ◌*◌, ◌%◌, ◌≤◌, ◌<◌}
use Rattle.theory.specs.Sums.{sum}

-- the binomial coefficient: n over j
unfoldable pub choose : ℕ → ℕ → ℕ
choose n zero = 1
choose zero (suc j) = 0
choose (suc n) (suc j) = choose n j + choose n (suc j)

-- b_0, …, b_(p − 3) are the Bernoulli numbers modulo p: b_0 is 1, and for n from 1 to p − 3 b_n is below p
-- and (n + 1)·b_n + Σ_{j < n} C(n + 1, j)·b_j is divisible by p
pub record Recurrence (p : ℕ) (b : ℕ → ℕ) : Type 0 where
  pub first : b 0 ≡ 1
  pub under : (n : ℕ) → 1 ≤ n → n ≤ p - 3 → b n < p
  pub divided : (n : ℕ) → 1 ≤ n → n ≤ p - 3 → ((n + 1) * b n + sum n (λ j. choose (n + 1) j * b j)) % p ≡ 0

-- r is B_k modulo p
abbrev pub BernoulliMod : ℕ → ℕ → ℕ → Type 0
BernoulliMod p k r = (b : ℕ → ℕ) × Recurrence p b × (b k ≡ r)
