-- The theorems about the sums: each is the contract of a function of this crate.
-- Assumes nothing.
use Rattle.std.specs.Prelude.{◌≡◌, ◌≢◌, ◌↔◌, ℕ, ◌+◌, ◌-◌, ◌*◌, ◌%◌, ◌^◌, ◌≤◌, ◌<◌}
use Rattle.theory.specs.Sums.{sum}
use Rattle.theory.specs.Pairs.{FitModulus, Fit, Sound}
use Rattle.theory.specs.Bernoulli.{Recurrence, BernoulliMod}
use Rattle.theory.specs.Direct.{direct_result}
use Rattle.theory.specs.Doubling.{Order, order, row_length_of, Usable, doubling_result}

-- 1^n + 2^n + … + (p − 1)^n
unfoldable pub power_sum : ℕ → ℕ → ℕ
power_sum p n = sum (p - 1) (λ x. (x + 1) ^ n)

-- for a sound pair there are Bernoulli numbers b_0, …, b_(p − 3) modulo p
abbrev pub BernoulliExist : Type 0
BernoulliExist = (p g : ℕ) → Sound p g → (b : ℕ → ℕ) × Recurrence p b

-- and there are no others
abbrev pub BernoulliUnique : Type 0
BernoulliUnique =
    (p g : ℕ)
    → Sound p g
    → (b c : ℕ → ℕ)
    → Recurrence p b
    → Recurrence p c
    → (n : ℕ)
    → n ≤ p - 3
    → b n ≡ c n

-- for a sound pair p·b_n and 1^n + 2^n + … + (p − 1)^n leave the same remainder by p²
abbrev pub PowerSumsGiveBernoulli : Type 0
PowerSumsGiveBernoulli =
    (p g : ℕ)
    → Sound p g
    → (b : ℕ → ℕ)
    → Recurrence p b
    → (n : ℕ)
    → 1 ≤ n
    → n ≤ p - 3
    → p * b n % (p * p) ≡ power_sum p n % (p * p)

-- for a fit and sound pair the direct result is B_k modulo p
abbrev pub DirectGivesBernoulli : Type 0
DirectGivesBernoulli = (k p g : ℕ) → Fit k p g → Sound p g → BernoulliMod p k (direct_result p g k)

-- for a fit and sound pair for which doubling is usable, the doubling result is B_k modulo p
abbrev pub DoublingGivesBernoulli : Type 0
DoublingGivesBernoulli =
    (k p g : ℕ) → Fit k p g → Sound p g → Usable p k → BernoulliMod p k (doubling_result p g k)

-- for a sound pair 2n' divides p − 1
abbrev pub SoundRowsFit : Type 0
SoundRowsFit = (p g : ℕ) → FitModulus p → Sound p g → (p - 1) % (2 * row_length_of p) ≡ 0

-- for an odd p from 5 on the computed order is the order of 2 by p, and the only one
abbrev pub OrderComputed : Type 0
OrderComputed = (p : ℕ) → p % 2 ≡ 1 → 5 ≤ p → Order p (order p) × ((n : ℕ) → Order p n → n ≡ order p)

-- 2n' divides p − 1 exactly when 2^(p − 1) leaves 1
abbrev pub RowsFit : Type 0
RowsFit = (p : ℕ) → p % 2 ≡ 1 → 5 ≤ p → ((p - 1) % (2 * row_length_of p) ≡ 0) ↔ (2 ^ (p - 1) % p ≡ 1)

-- and then the order divides p − 1, and is the least divisor d of p − 1 with 2^d leaving 1
abbrev pub OrderLeastDivisor : Type 0
OrderLeastDivisor =
    (p : ℕ)
    → p % 2 ≡ 1
    → 5 ≤ p
    → 2 ^ (p - 1) % p ≡ 1
    → ((p - 1) % order p ≡ 0)
    × ((d : ℕ)
    → 0 < d
    → (p - 1) % d ≡ 0
    → 2 ^ d % p ≡ 1
    → ((e : ℕ) → 0 < e → e < d → (p - 1) % e ≡ 0 → 2 ^ e % p ≢ 1)
    → d ≡ order p)
