-- The doubling sum: rows of terms, each point twice the one before it in its row.
-- Assumes nothing.
use Rattle.std.specs.Prelude.{◌≡◌, true, false, cond, ◌≢◌, ℕ, zero, suc, ◌-◌, ◌*◌, ◌/◌, ◌%◌, ◌^◌, ◌<◌, eqb}
use Rattle.theory.specs.Residues.{minus, inverse, signed}
use Rattle.theory.specs.Sums.{sum}
use Rattle.theory.specs.Direct.{terms_of}

-- n is the order of 2 by p: the least positive number with 2^n leaving 1
pub record Order (p n : ℕ) : Type 0 where
  pub positive : 0 < n
  pub leaves_one : 2 ^ n % p ≡ 1
  pub least : (m : ℕ) → 0 < m → m < n → 2 ^ m % p ≢ 1

-- the first of the numbers n, n + 1, … with 2^n leaving 1, among as many as `steps`, or 0
unfoldable pub first_one : ℕ → ℕ → ℕ → ℕ
first_one p zero n = 0
first_one p (suc steps) n = elim (eqb (2 ^ n % p) 1) [ true ↦ n | false ↦ first_one p steps (suc n) ]

-- the order of 2 by p, computed: for an odd p it lies in 1 to p − 1
unfoldable pub order : ℕ → ℕ
order p = first_one p (p - 1) 1

-- n', the length of a row: half the order where that is even, else the order
unfoldable pub row_length_of : ℕ → ℕ
row_length_of p = cond (eqb (order p % 2) 0) (order p / 2) (order p)

-- m', the number of rows
unfoldable pub row_count : ℕ → ℕ
row_count p = (p - 1) / (2 * row_length_of p)

-- the doubling sum is usable for the index k: 2n' divides p − 1, and 2^k does not leave 1
abbrev pub Usable : ℕ → ℕ → Type 0
Usable p k = ((p - 1) % (2 * row_length_of p) ≡ 0) × (2 ^ k % p ≢ 1)

-- the point at place j of row i: g^i·2^j mod p
unfoldable pub doubling_point : ℕ → ℕ → ℕ → ℕ → ℕ
doubling_point p g i j = g ^ i * 2 ^ j % p

-- the weight at place j of row i: (g^(k − 1))^i·(2^(k − 1))^j
unfoldable pub doubling_weight : ℕ → ℕ → ℕ → ℕ → ℕ → ℕ
doubling_weight p g k i j = (g ^ (k - 1)) ^ i * (2 ^ (k - 1)) ^ j % p

-- the term at place j of row i: its weight where its point x is below p/2, else the negative of it.
-- The whole quotient of 2x by p is 0 where x is below p/2, else 1.
unfoldable pub doubling_term : ℕ → ℕ → ℕ → ℕ → ℕ → ℕ
doubling_term p g k i j = signed p (2 * doubling_point p g i j / p) (doubling_weight p g k i j)

-- the partial sum of the first t terms, row by row
unfoldable pub doubling_sum : ℕ → ℕ → ℕ → ℕ → ℕ
doubling_sum p g k t = sum t (λ s. doubling_term p g k (s / row_length_of p) (s % row_length_of p)) % p

-- the result of a whole doubling run: k·S/(2(2^(−k) − 1)), with S the sum of all terms and 2^(−k) = 1/2^k
unfoldable pub doubling_result : ℕ → ℕ → ℕ → ℕ
doubling_result p g k = k * doubling_sum p g k (terms_of p) * inverse p (2 * minus p (inverse p (2 ^ k)) 1) % p
