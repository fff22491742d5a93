-- Remainders of signed numbers by p: of a difference u − d, of sums, differences and products.
-- Main statements: remainder_of, remainder_sum, remainder_difference, remainder_product.
-- Assumes nothing.
use Rattle.std.proofs.Common.{◌≡◌, ℕ, suc, ◌+◌, ◌-◌, ◌*◌, ◌/◌, ◌%◌, ◌^◌, ◌<◌, ◌≤◌, ℤ, pos, negsuc, ◌+ℤ◌, ◌*ℤ◌, neg_ℤ, sym, refl, ap, ◌∙◌, mod-lt, mod-eq_of_lt, mul-le-mul, div-le_self, arith, w32, w64, SFits, to_z, of_z}
use native.Mathlib.Nat.{add-mul-mod_self_left, mod-add-div, add-mod}
use borrow.Author.Differences.{up, down, sum_is_lem, neg_is, product_is, at_most_in, ints}
use Rattle.std.specs.Int.{int_rem_euclid}
use Rattle.std.proofs.lemmas.Int.{to_z-of_z, to_z_pos}
use Rattle.theory.specs.Residues.{minus}
use Rattle.theory.proofs.Modular.{mul-mod}
use Rattle.arithmetic.specs.Words.{remainder, WithinHalf}
use Rattle.arithmetic.proofs.Differences.{minus_of_sum}

-- p − 1 stands for −1
negative_mod : (p n : ℕ) → 0 < p → (p - 1) * suc n % p ≡ p - 1 - n % p
negative_mod p n positive =
    let q = p - 1 in
    let one_more : p ≡ suc q = omega arith in
    let rest : n % p < p = mod-lt n positive in
    let split : n % p + p * (n / p) ≡ n = mod-add-div n p in
    let less : n / p ≤ n = div-le_self n p in
    let left : n - n / p + n / p ≡ n = omega arith in
    let whole : q * suc n ≡ q - n % p + p * (n - n / p) =
    omega (arith, ap (λ (y : ℕ). y * n) one_more, ap (λ (y : ℕ). p * y) left) in
    ap (λ (y : ℕ). y % p) whole ∙ add-mul-mod_self_left (q - n % p) p (n - n / p) ∙ mod-eq_of_lt (omega arith)

-- the remainder of u − d
pub remainder_of : (p : ℕ) (z : ℤ) (u d : ℕ) → 0 < p → up z + d ≡ u + down z → remainder p z ≡ (u + (p - 1) * d) % p
remainder_of p (pos n) u d positive same =
    let q = p - 1 in
    let one_more : p ≡ suc q = omega arith in
    let whole : u + q * d ≡ n + p * d = omega (arith, ap (λ (y : ℕ). y * d) one_more) in
    sym (ap (λ (y : ℕ). y % p) whole ∙ add-mul-mod_self_left n p d)
remainder_of p (negsuc n) u d positive same =
    let q = p - 1 in
    let one_more : p ≡ suc q = omega arith in
    let more : d ≡ u + suc n = omega arith in
    let whole : u + q * d ≡ q * suc n + p * u = omega (arith, ap (λ (y : ℕ). y * u) one_more, ap (λ (y : ℕ). q * y) more) in
    sym (ap (λ (y : ℕ). y % p) whole ∙ add-mul-mod_self_left (q * suc n) p u ∙ negative_mod p n positive)

-- as a number of its own
pub remainder_is : (p : ℕ) (z : ℤ) → 0 < p → remainder p z ≡ (up z + (p - 1) * down z) % p
remainder_is p z positive = remainder_of p z (up z) (down z) positive refl

pub remainder_under : (p : ℕ) (z : ℤ) → 0 < p → remainder p z < p
remainder_under p (pos n) positive = mod-lt n positive
remainder_under p (negsuc n) positive = omega arith

pub remainder_sum : (p : ℕ) (a b : ℤ) → 0 < p → remainder p (a +ℤ b) ≡ (remainder p a + remainder p b) % p
remainder_sum p a b positive =
    let q = p - 1 in
    let spread : up a + up b + q * (down a + down b) ≡ up a + q * down a + (up b + q * down b) = omega arith in
    remainder_of p (a +ℤ b) (up a + up b) (down a + down b) positive (omega (arith, sum_is_lem a b))
    ∙ ap (λ (y : ℕ). y % p) spread
    ∙ add-mod (up a + q * down a) (up b + q * down b) p
    ∙ sym (ap (λ (y : ℕ). (y + remainder p b) % p) (remainder_is p a positive) ∙ ap (λ (y : ℕ). ((up a + q * down a) % p + y) % p) (remainder_is p b positive))

pub remainder_difference : (p : ℕ) (a b c : ℤ) → 0 < p → c +ℤ b ≡ a → remainder p c ≡ minus p (remainder p a) (remainder p b)
remainder_difference p a b c positive same =
    minus_of_sum p (remainder p c) (remainder p a) (remainder p b) positive (remainder_under p c positive)
    (sym (remainder_sum p c b positive) ∙ ap (remainder p) same ∙ sym (mod-eq_of_lt (remainder_under p a positive)))

pub remainder_product : (p : ℕ) (a b : ℤ) → 0 < p → remainder p (a *ℤ b) ≡ remainder p a * remainder p b % p
remainder_product p a b positive =
    let q = p - 1 in
    let one_more : p ≡ suc q = omega arith in
    let x = up a in let y = down a in let z = up b in let w = down b in
    let spread : x * z + y * w + q * (x * w + y * z) + p * (q * (y * w)) ≡ (x + q * y) * (z + q * w) + p * (y * w) =
    omega (arith, ap (λ (v : ℕ). v * (q * (y * w))) one_more, ap (λ (v : ℕ). v * (y * w)) one_more) in
    remainder_of p (a *ℤ b) (x * z + y * w) (x * w + y * z) positive (omega (arith, product_is a b))
    ∙ sym (add-mul-mod_self_left (x * z + y * w + q * (x * w + y * z)) p (q * (y * w)))
    ∙ ap (λ (v : ℕ). v % p) spread
    ∙ add-mul-mod_self_left ((x + q * y) * (z + q * w)) p (y * w)
    ∙ sym (mul-mod (x + q * y) (z + q * w) p)
    ∙ sym (ap (λ (v : ℕ). v * remainder p b % p) (remainder_is p a positive) ∙ ap (λ (v : ℕ). (x + q * y) % p * v % p) (remainder_is p b positive))

-- the remainder is what the Euclidean remainder holds
pub remainder_euclid : (p : ℕ) (z : ℤ) → int_rem_euclid z (pos p) ≡ pos (remainder p z)
remainder_euclid p (pos n) = refl
remainder_euclid p (negsuc n) = refl

-- a word that is the remainder of n, or that less p
pub remainder_same : (p : ℕ) (n z : ℤ) → 0 < p → z ≡ pos (remainder p n) → remainder p z ≡ remainder p n
remainder_same p n z positive same = ap (remainder p) same ∙ mod-eq_of_lt (remainder_under p n positive)

pub remainder_less : (p : ℕ) (n z : ℤ) → 0 < p → up z + p ≡ remainder p n + down z → remainder p z ≡ remainder p n
remainder_less p n z positive same =
    let r = remainder p n in
    let turn : r + (p - 1) * p ≡ r + p * (p - 1) = omega arith in
    remainder_of p z r p positive same
    ∙ ap (λ (y : ℕ). y % p) turn
    ∙ add-mul-mod_self_left r p (p - 1)
    ∙ mod-eq_of_lt (remainder_under p n positive)

-- the Euclidean remainder of 64-bit words by p
pub remainder_words : (p : ℕ) (n rest : ℤ) → p < 2 ^ 63 → SFits w64 n → rest ≡ int_rem_euclid (to_z w64 (of_z w64 n)) (to_z w64 p) → rest ≡ pos (remainder p n)
remainder_words p n rest small fits same =
    same
    ∙ ap (λ (z : ℤ). int_rem_euclid z (to_z w64 p)) (to_z-of_z w64 n fits)
    ∙ ap (int_rem_euclid n) (to_z_pos w64 p small)
    ∙ remainder_euclid p n

-- a 32-bit word as a 64-bit one
pub widened : (a : ℤ) → SFits w32 a → to_z w64 (of_z w64 (to_z w32 (of_z w32 a))) ≡ a
widened a fits = omega (arith, ints)

-- the product of two 32-bit words fits 64 bits
pub product_fits : (a b : ℤ) → SFits w32 a → SFits w32 b → SFits w64 (a *ℤ b)
product_fits (pos m) (pos n) left right = omega (arith, ints, mul-le-mul {n₁ = m} {m₁ = n} {n₂ = 2 ^ 31} {m₂ = 2 ^ 31} (omega (arith, ints)) (omega (arith, ints)))
product_fits (pos m) (negsuc n) left right = omega (arith, ints, mul-le-mul {n₁ = m} {m₁ = suc n} {n₂ = 2 ^ 31} {m₂ = 2 ^ 31} (omega (arith, ints)) (omega (arith, ints)))
product_fits (negsuc m) (pos n) left right = omega (arith, ints, mul-le-mul {n₁ = suc m} {m₁ = n} {n₂ = 2 ^ 31} {m₂ = 2 ^ 31} (omega (arith, ints)) (omega (arith, ints)))
product_fits (negsuc m) (negsuc n) left right = omega (arith, ints, mul-le-mul {n₁ = suc m} {m₁ = suc n} {n₂ = 2 ^ 31} {m₂ = 2 ^ 31} (omega (arith, ints)) (omega (arith, ints)))

-- the product as the machine works it out
pub product_words : (a b : ℤ) → SFits w32 a → SFits w32 b
    → to_z w64 (of_z w64 (to_z w64 (of_z w64 (to_z w32 (of_z w32 a))) *ℤ to_z w64 (of_z w64 (to_z w32 (of_z w32 b))))) ≡ a *ℤ b
product_words a b left right =
    ap (λ (z : ℤ). to_z w64 (of_z w64 (z *ℤ to_z w64 (of_z w64 (to_z w32 (of_z w32 b)))))) (widened a left)
    ∙ ap (λ (z : ℤ). to_z w64 (of_z w64 (a *ℤ z))) (widened b right)
    ∙ to_z-of_z w64 (a *ℤ b) (product_fits a b left right)

-- a word is balanced where it is at most (p − 1)/2 either way
pub within_half : (p : ℕ) (z : ℤ) → down z ≤ up z + (p - 1) / 2 → up z ≤ down z + (p - 1) / 2 → WithinHalf p z
within_half p z low high = (
  at_most_in (neg_ℤ (pos ((p - 1) / 2))) z (omega (arith, neg_is (pos ((p - 1) / 2)))),
  at_most_in z (pos ((p - 1) / 2)) (omega arith),
)
