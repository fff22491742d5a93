-- The two results, as an arithmetic of modulus m works them.
-- Main statements: quotient_worked, direct_result_worked, doubling_result_worked.
-- Assumes nothing.
use Rattle.std.proofs.Common.{◌≡◌, ℕ, ◌+◌, ◌-◌, ◌*◌, ◌%◌, ◌^◌, sym, ap, ◌∙◌, ap₂}
use native.Mathlib.Nat.{mod-mod}
use Rattle.theory.specs.Residues.{minus, inverse}
use Rattle.theory.proofs.Modular.{mul-mod, mul_mod_left, mul_mod_right, pow-mod, minus-mod, inverse-mod}

-- a product of residues is the residue of the product
product_worked : (m a b x y z : ℕ) → x ≡ a % m → y ≡ b % m → z ≡ x * y % m → z ≡ a * b % m
product_worked m a b x y z left right product = product ∙ ap₂ (λ (i j : ℕ). i * j % m) left right ∙ mul-mod a b m

power_worked : (m a n x y : ℕ) → x ≡ a % m → y ≡ x ^ n % m → y ≡ a ^ n % m
power_worked m a n x y base power = power ∙ ap (λ (i : ℕ). i ^ n % m) base ∙ pow-mod a n m

pub quotient_worked : (m x s d brought product inverted r : ℕ)
    → brought ≡ s % m → product ≡ x * brought % m → inverted ≡ inverse m d → r ≡ product * inverted % m → r ≡ x * s * inverse m d % m
quotient_worked m x s d brought product inverted r e1 e2 e3 e4 =
    let whole : product ≡ x * s % m = e2 ∙ ap (λ (i : ℕ). x * i % m) e1 ∙ mul_mod_right x s m in
    e4 ∙ ap₂ (λ (i j : ℕ). i * j % m) whole e3 ∙ mul_mod_left (x * s) (inverse m d) m

-- the same where the factor is a residue of a, and the divisor is d
quotient_of : (m a s d x e r : ℕ) → x ≡ a % m → inverse m e ≡ inverse m d → r ≡ x * s * inverse m e % m → r ≡ a * s * inverse m d % m
quotient_of m a s d x e r factor divisor worked =
    worked ∙ ap (λ (i : ℕ). x * s * i % m) divisor
    ∙ sym (mul_mod_left (x * s) (inverse m d) m)
    ∙ ap (λ (i : ℕ). i * inverse m d % m) (ap (λ (i : ℕ). i * s % m) factor ∙ mul_mod_left a s m)
    ∙ mul_mod_left (a * s) (inverse m d) m

pub direct_result_worked : (m k g s base power one divisor two index twice r : ℕ)
    → base ≡ g % m → power ≡ base ^ k % m → one ≡ 1 % m → divisor ≡ minus m one power
    → two ≡ 2 % m → index ≡ k % m → twice ≡ two * index % m → r ≡ twice * s * inverse m divisor % m
    → r ≡ 2 * k * s * inverse m (minus m 1 (g ^ k)) % m
direct_result_worked m k g s base power one divisor two index twice r e1 e2 e3 e4 e5 e6 e7 worked =
    let below : divisor ≡ minus m 1 (g ^ k) =
    e4 ∙ ap₂ (minus m) e3 (power_worked m g k base power e1 e2) ∙ minus-mod m 1 (g ^ k) in
    quotient_of m (2 * k) s (minus m 1 (g ^ k)) twice divisor r (product_worked m 2 k two index twice e5 e6 e7) (ap (inverse m) below) worked

pub doubling_result_worked : (m k s two power half one below divisor index r : ℕ)
    → two ≡ 2 % m → power ≡ two ^ k % m → half ≡ inverse m power → one ≡ 1 % m → below ≡ minus m half one → divisor ≡ two * below % m
    → index ≡ k % m → r ≡ index * s * inverse m divisor % m
    → r ≡ k * s * inverse m (2 * minus m (inverse m (2 ^ k)) 1) % m
doubling_result_worked m k s two power half one below divisor index r e1 e2 e3 e4 e5 e6 e7 worked =
    let inverse-power : half ≡ inverse m (2 ^ k) =
    e3 ∙ ap (inverse m) (power_worked m 2 k two power e1 e2) ∙ inverse-mod m (2 ^ k) in
    let less : below ≡ minus m (inverse m (2 ^ k)) 1 =
    e5 ∙ ap₂ (minus m) inverse-power e4
    ∙ ap (λ (i : ℕ). (inverse m (2 ^ k) % m + (m - i)) % m) (mod-mod 1 m) in
    let double : divisor ≡ 2 * minus m (inverse m (2 ^ k)) 1 % m =
    e6 ∙ ap₂ (λ (i j : ℕ). i * j % m) e1 less ∙ mul_mod_left 2 (minus m (inverse m (2 ^ k)) 1) m in
    quotient_of m k s (2 * minus m (inverse m (2 ^ k)) 1) index divisor r e7
    (ap (inverse m) double ∙ inverse-mod m (2 * minus m (inverse m (2 ^ k)) 1)) worked
