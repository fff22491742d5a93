-- Quotients by p of the products f·x, guessed through the whole quotient of f·w by p, for a w that x does not pass.
-- Main statements: guess_low and guess_high, that the guess is at most one too small; divided.
-- Assumes nothing.
use Rattle.std.proofs.Common.{◌≡◌, ℕ, ◌+◌, ◌*◌, ◌/◌, ◌%◌, ◌<◌, ◌≤◌, sym, ap, ◌∙◌, mul-le-mul_right, lt_of_mul-lt-mul_right, mul-le-mul_left, div-mul-le_self, le_of_mul-le-mul_right, arith}
use native.Mathlib.Nat.{lt-div-mul-add}
use lib.Arith.{digits_div, digits_mod}

-- a divided by b, as a product and what is left
below : (a b : ℕ) → 0 < b → a + 1 ≤ a / b * b + b
below a b positive = let h : a < a / b * b + b = lt-div-mul-add positive in omega arith

-- s is the scaled quotient, and the guess is s·x divided by w
module _ (f x p w s : ℕ) (scaled : s ≡ f * w / p) (positive : 0 < p) (wide : 0 < w) where
  pub guess_low : s * x / w * p ≤ f * x
  guess_low =
      let q = s * x / w in
      let a : q * w * p ≤ s * x * p = mul-le-mul_right p (div-mul-le_self (s * x) w) in
      let b : f * w / p * p * x ≤ f * w * x = mul-le-mul_right x (div-mul-le_self (f * w) p) in
      let e : s * p * x ≡ f * w / p * p * x = ap (λ (n : ℕ). n * p * x) scaled in
      let c : q * p * w ≤ f * x * w = omega arith in
      le_of_mul-le-mul_right c wide

  pub guess_high : x ≤ w → f * x < s * x / w * p + (p + p)
  guess_high within =
      let q = s * x / w in
      let a : (s * x + 1) * p ≤ (q * w + w) * p = mul-le-mul_right p (below (s * x) w wide) in
      let b : (f * w + 1) * x ≤ (f * w / p * p + p) * x = mul-le-mul_right x (below (f * w) p positive) in
      let e : s * p * x ≡ f * w / p * p * x = ap (λ (n : ℕ). n * p * x) scaled in
      let d : p * x ≤ p * w = mul-le-mul_left p within in
      let c : f * x * w < (q * p + (p + p)) * w = omega arith in
      lt_of_mul-lt-mul_right w c

-- a number written as q·m + r with r below m has the quotient q and the remainder r
pub divided : (q r m a : ℕ) → a ≡ q * m + r → r < m → (q ≡ a / m) × (r ≡ a % m)
divided q r m a whole under =
    (sym (ap (λ (x : ℕ). x / m) whole ∙ digits_div q under), sym (ap (λ (x : ℕ). x % m) whole ∙ digits_mod q under))
