-- Powers by squaring: what is gathered times the square to the exponent that is left stays the power.
-- Main statements: square_even, square_odd, gathered_one, gathered_all.
-- Assumes nothing.
use Rattle.std.proofs.Common.{◌≡◌, ℕ, suc, ◌+◌, ◌*◌, ◌/◌, ◌%◌, ◌^◌, ◌<◌, sym, ap, ◌∙◌, mod-eq_of_lt, one-mul, pow-suc, mul-one, arith, pow-add}
use native.Mathlib.Nat.{pow-zero}
use Rattle.theory.proofs.Modular.{mul_mod_left, mul_mod_right, pow-mod, mul-pow}

-- the square to the half of an exponent
pub square_half : (p a x h : ℕ) → a * (x * x % p) ^ h % p ≡ a * x ^ (h + h) % p
square_half p a x h =
    sym (mul_mod_right a ((x * x % p) ^ h) p)
    ∙ ap (λ (y : ℕ). a * y % p) (pow-mod (x * x) h p)
    ∙ mul_mod_right a ((x * x) ^ h) p
    ∙ ap (λ (y : ℕ). a * y % p) (mul-pow x x h ∙ sym (pow-add x h h))

pub square_even : (p a x n : ℕ) → n % 2 ≡ 0 → a * (x * x % p) ^ (n / 2) % p ≡ a * x ^ n % p
square_even p a x n even =
    square_half p a x (n / 2) ∙ ap (λ (y : ℕ). a * x ^ y % p) (omega arith)

pub square_odd : (p a x n : ℕ) → n % 2 ≡ 1 → (a * x % p) * (x * x % p) ^ (n / 2) % p ≡ a * x ^ n % p
square_odd p a x n odd =
    let h = n / 2 in
    let whole : suc (h + h) ≡ n = omega arith in
    square_half p (a * x % p) x h
    ∙ mul_mod_left (a * x) (x ^ (h + h)) p
    ∙ ap (λ (y : ℕ). y % p) (omega (arith, ap (λ (y : ℕ). a * y) (pow-suc x (h + h))))
    ∙ ap (λ (y : ℕ). a * x ^ y % p) whole

-- at the start 1 is gathered
pub gathered_one : (p a y : ℕ) → a ≡ 1 % p → a * y % p ≡ y % p
gathered_one p a y one =
    ap (λ (z : ℕ). z * y % p) one ∙ mul_mod_left 1 y p ∙ ap (λ (z : ℕ). z % p) (one-mul y)

-- at the end nothing is left of the exponent
pub gathered_all : (p a x n y : ℕ) → n ≡ 0 → a < p → a * x ^ n % p ≡ y → a ≡ y
gathered_all p a x n y none under same =
    sym (ap (λ (z : ℕ). a * x ^ z % p) none ∙ ap (λ (z : ℕ). a * z % p) (pow-zero x) ∙ ap (λ (z : ℕ). z % p) (mul-one a) ∙ mod-eq_of_lt under)
    ∙ same
