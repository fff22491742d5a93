-- The direct sum: one term for each i from 1 to (p − 1)/2.
-- Assumes nothing.
use Rattle.std.specs.Prelude.{ℕ, ◌+◌, ◌-◌, ◌*◌, ◌/◌, ◌%◌, ◌^◌}
use Rattle.theory.specs.Residues.{minus, inverse}
use Rattle.theory.specs.Sums.{sum}

-- how many terms a whole run has, of either kind
abbrev pub terms_of : ℕ → ℕ
terms_of p = (p - 1) / 2

-- the point of term i is g^(i − 1) mod p, and its quotient q the whole quotient of g times the point by p
unfoldable pub direct_point : ℕ → ℕ → ℕ → ℕ
direct_point p g i = g ^ (i - 1) % p

unfoldable pub direct_quotient : ℕ → ℕ → ℕ → ℕ
direct_quotient p g i = g * (g ^ (i - 1) % p) / p

-- the weight of term i: g^(i(k − 1))
unfoldable pub direct_weight : ℕ → ℕ → ℕ → ℕ → ℕ
direct_weight p g k i = g ^ (i * (k - 1)) % p

-- u, the half of g − 1 as a residue: g − 1 times the half (p + 1)/2 of 1
abbrev pub half_below : ℕ → ℕ → ℕ
half_below p g = (g - 1) * ((p + 1) / 2)

-- term i: (u − q)·g^(i(k − 1))
unfoldable pub direct_term : ℕ → ℕ → ℕ → ℕ → ℕ
direct_term p g k i = minus p (half_below p g) (direct_quotient p g i) * direct_weight p g k i % p

-- the partial sum of the terms 1 to t
unfoldable pub direct_sum : ℕ → ℕ → ℕ → ℕ → ℕ
direct_sum p g k t = sum t (λ j. direct_term p g k (j + 1)) % p

-- the result of a whole direct run: 2kS/(1 − g^k), with S the sum of all terms
unfoldable pub direct_result : ℕ → ℕ → ℕ → ℕ
direct_result p g k = 2 * k * direct_sum p g k (terms_of p) * inverse p (minus p 1 (g ^ k)) % p
