-- Powers of numbers.
-- Main statements: one_pow, zero_pow, mul-pow, pow-mul.
use mathlib.Core.Path.{◌≡◌, ap, ap₂, sym, ◌∙◌}
use Prim.Native.Nat.{ℕ, zero, suc, ◌*◌, ◌^◌}
use native.Mathlib.Nat.{pow-zero, pow-suc, mul-zero, mul-suc}
use native.Mathlib.Omega.{arith}
use lib.Pow.{pow-add}

pub pow_one : (a : ℕ) → a ^ 1 ≡ a
pow_one a = pow-suc a 0 ∙ omega (arith, ap (λ (x : ℕ). x * a) (pow-zero a))

pub one_pow : (k : ℕ) → 1 ^ k ≡ 1
one_pow zero = pow-zero 1
one_pow (suc k) = pow-suc 1 k ∙ omega (arith, one_pow k)

pub zero_pow : (k : ℕ) → 0 ^ suc k ≡ 0
zero_pow k = pow-suc 0 k ∙ mul-zero (0 ^ k)

pub mul-pow : (a b k : ℕ) → (a * b) ^ k ≡ a ^ k * b ^ k
mul-pow a b zero = pow-zero (a * b) ∙ sym (ap₂ ◌*◌ (pow-zero a) (pow-zero b))
mul-pow a b (suc k) =
    pow-suc (a * b) k
    ∙ (ap (λ (x : ℕ). x * (a * b)) (mul-pow a b k) ∙ omega arith)
    ∙ sym (ap₂ ◌*◌ (pow-suc a k) (pow-suc b k))

pub pow-mul : (a i j : ℕ) → a ^ (i * j) ≡ (a ^ i) ^ j
pow-mul a i zero = ap (λ (x : ℕ). a ^ x) (mul-zero i) ∙ pow-zero a ∙ sym (pow-zero (a ^ i))
pow-mul a i (suc j) =
    ap (λ (x : ℕ). a ^ x) (mul-suc i j)
    ∙ pow-add a (i * j) i
    ∙ ap (λ (x : ℕ). x * a ^ i) (pow-mul a i j)
    ∙ sym (pow-suc (a ^ i) j)
