-- The pairs (p, g) of a modulus and a generator, and the indices k that they serve.
-- Assumes nothing.
use Rattle.std.specs.Prelude.{◌≡◌, ℕ, ◌-◌, ◌%◌, ◌^◌, ◌≤◌}

-- what a modulus has to be: odd, and from 5 to 2147483647
abbrev pub FitModulus : ℕ → Type 0
FitModulus p = (p % 2 ≡ 1) × (5 ≤ p) × (p ≤ 2147483647)

-- the generator g lies in 2 to p − 1
abbrev pub FitGenerator : ℕ → ℕ → Type 0
FitGenerator p g = (2 ≤ g) × (g ≤ p - 1)

-- the index k is even and lies in 2 to p − 3
abbrev pub FitIndex : ℕ → ℕ → Type 0
FitIndex p k = (k % 2 ≡ 0) × (2 ≤ k) × (k ≤ p - 3)

-- the pair (p, g) is fit for the index k
abbrev pub Fit : ℕ → ℕ → ℕ → Type 0
Fit k p g = FitModulus p × FitGenerator p g × FitIndex p k

-- the pair (p, g) is sound: the remainders of g, g², …, g^(p − 1) by p meet every number from 1 to p − 1.
-- No code tests this: it is the word of whoever lists the pair.
abbrev pub Sound : ℕ → ℕ → Type 0
Sound p g = (x : ℕ) → 1 ≤ x → x ≤ p - 1 → (i : ℕ) × (1 ≤ i) × (i ≤ p - 1) × (g ^ i % p ≡ x)
