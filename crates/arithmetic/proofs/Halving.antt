-- Montgomery words: halving 32 times modulo an odd p undoes the product with 2^32, and the reduction gives t/2^32.
-- Main statements: halved_of, halved_sum, halved_difference, halved_product, reduced_word, reduced_below, reduced_above, brought_word.
-- Assumes nothing.
use Rattle.std.proofs.Common.{◌≡◌, ℕ, zero, suc, ◌+◌, ◌*◌, ◌/◌, ◌%◌, ◌^◌, ◌<◌, sym, refl, ap, ◌∙◌, mod-lt, mod-eq_of_lt, mul_assoc, div-lt_iff_lt-mul, mul-le-mul_left, mul-lt-mul_of_pos_right, pow-suc, mul-one, arith}
use native.Mathlib.Nat.{add-mul-mod_self_left, add-mod_left, add-mod, mod-add-div, mod-mod, pow-zero}
use Rattle.theory.specs.Residues.{minus}
use Rattle.theory.proofs.Modular.{mul-mod, mul_mod_left, mul_mod_right, pow-mod, mul-pow}
use Rattle.arithmetic.specs.Words.{halved}
use Rattle.arithmetic.proofs.Differences.{minus_of_sum}

one_pow : (n : ℕ) → 1 ^ n ≡ 1
one_pow zero = pow-zero 1
one_pow (suc n) = pow-suc 1 n ∙ mul-one (1 ^ n) ∙ one_pow n

-- n halvings undo n doublings
pub halving_undoes : (p n : ℕ) → p % 2 ≡ 1 → 2 ^ n * ((p + 1) / 2) ^ n % p ≡ 1 % p
halving_undoes p n odd =
    let whole : 2 * ((p + 1) / 2) ≡ p + 1 = omega arith in
    ap (λ (y : ℕ). y % p) (sym (mul-pow 2 ((p + 1) / 2) n) ∙ ap (λ (y : ℕ). y ^ n) whole)
    ∙ sym (pow-mod (p + 1) n p)
    ∙ ap (λ (y : ℕ). y ^ n % p) (add-mod_left p 1)
    ∙ pow-mod 1 n p
    ∙ ap (λ (y : ℕ). y % p) (one_pow n)

-- the residue of a word t that leaves x·2^32 is that of x
pub halved_of : (p x t : ℕ) → p % 2 ≡ 1 → x * 2 ^ 32 % p ≡ t % p → halved p t ≡ x % p
halved_of p x t odd same =
    let h = ((p + 1) / 2) ^ 32 in
    sym (mul_mod_left t h p)
    ∙ ap (λ (y : ℕ). y * h % p) (sym same)
    ∙ mul_mod_left (x * 2 ^ 32) h p
    ∙ ap (λ (y : ℕ). y % p) (mul_assoc x (2 ^ 32) h)
    ∙ sym (mul_mod_right x (2 ^ 32 * h) p)
    ∙ ap (λ (y : ℕ). x * y % p) (halving_undoes p 32 odd)
    ∙ mul_mod_right x 1 p
    ∙ ap (λ (y : ℕ). y % p) (mul-one x)

-- a word by its remainder
pub halved_mod : (p a b : ℕ) → a % p ≡ b % p → halved p a ≡ halved p b
halved_mod p a b same =
    let h = ((p + 1) / 2) ^ 32 in
    sym (mul_mod_left a h p) ∙ ap (λ (y : ℕ). y * h % p) same ∙ mul_mod_left b h p

pub halved_sum : (p r a b : ℕ) → r % p ≡ (a + b) % p → halved p r ≡ (halved p a + halved p b) % p
halved_sum p r a b same =
    let h = ((p + 1) / 2) ^ 32 in
    let spread : (a + b) * h ≡ a * h + b * h = omega arith in
    halved_mod p r (a + b) same ∙ ap (λ (y : ℕ). y % p) spread ∙ add-mod (a * h) (b * h) p

pub halved_difference : (p r a b : ℕ) → 0 < p → (r + b) % p ≡ a % p → halved p r ≡ minus p (halved p a) (halved p b)
halved_difference p r a b positive same =
    let h = ((p + 1) / 2) ^ 32 in
    minus_of_sum p (halved p r) (halved p a) (halved p b) positive (mod-lt (r * h) positive)
    (sym (halved_sum p (r + b) r b (refl))
    ∙ halved_mod p (r + b) a same
    ∙ sym (mod-mod (a * h) p))

pub halved_product : (p r a b : ℕ) → p % 2 ≡ 1 → r * 2 ^ 32 % p ≡ a * b % p → halved p r ≡ halved p a * halved p b % p
halved_product p r a b odd same =
    let h = ((p + 1) / 2) ^ 32 in
    let spread : a * b * h * h ≡ a * h * (b * h) = omega arith in
    sym (mul_mod_left r h p)
    ∙ ap (λ (y : ℕ). y * h % p) (sym (halved_of p r (a * b) odd same))
    ∙ mul_mod_left (a * b * h) h p
    ∙ ap (λ (y : ℕ). y % p) spread
    ∙ sym (mul-mod (a * h) (b * h) p)

-- the multiple of p with the low word of t: m is t/p modulo 2^32
pub reduced_word : (p i t w : ℕ) → p * i % w ≡ 1 → (t % w * i % w) * p % w ≡ t % w
reduced_word p i t w inverts =
    let turn : t % w * i * p ≡ t % w * (p * i) = omega arith in
    mul_mod_left (t % w * i) p w
    ∙ ap (λ (y : ℕ). y % w) turn
    ∙ sym (mul_mod_right (t % w) (p * i) w)
    ∙ ap (λ (y : ℕ). t % w * y % w) inverts
    ∙ ap (λ (y : ℕ). y % w) (mul-one (t % w))
    ∙ mod-mod t w

-- the difference of the high words, where that of t is not below
pub reduced_above : (p m t w r : ℕ) → m * p % w ≡ t % w → r + m * p / w ≡ t / w → r * w % p ≡ t % p
reduced_above p m t w r low high =
    let whole : r * w + p * m ≡ t = omega (arith, mod-add-div t w, mod-add-div (m * p) w, ap (λ (y : ℕ). y * w) high) in
    sym (add-mul-mod_self_left (r * w) p m) ∙ ap (λ (y : ℕ). y % p) whole

-- and where it is below, with p
pub reduced_below : (p m t w r : ℕ) → m * p % w ≡ t % w → r + m * p / w ≡ t / w + p → r * w % p ≡ t % p
reduced_below p m t w r low high =
    let whole : r * w + p * m ≡ t + p * w = omega (arith, mod-add-div t w, mod-add-div (m * p) w, ap (λ (y : ℕ). y * w) high) in
    sym (add-mul-mod_self_left (r * w) p m) ∙ ap (λ (y : ℕ). y % p) whole ∙ add-mul-mod_self_left t p w

-- the high word of a multiple of p by a word is below p
pub high_below : (p m w : ℕ) → 0 < p → 0 < w → m < w → m * p / w < p
high_below p m w positive words under =
    (div-lt_iff_lt-mul {k = w} {x = m * p} {y = p} words).1 (omega (arith, mul-lt-mul_of_pos_right under positive))

-- a product of a number below p and a word
pub product_below : (p a b : ℕ) → a < p → b < 2 ^ 32 → a * b < p * 2 ^ 32
product_below p a b left right = omega (arith, mul-le-mul_left {m = b} {n = 2 ^ 32} a (omega arith))

-- n·(2^64 mod p) is small enough to be reduced below p
pub brought_below : (p n square : ℕ) → 0 < p → n < 2 ^ 32 → square ≡ 2 ^ 64 % p → n * square < p * 2 ^ 32
brought_below p n square positive small squared =
    let under : square < p = omega (arith, mod-lt (2 ^ 64) positive) in
    omega (arith, product_below p square n under small)

-- what is reduced from n·(2^64 mod p) is n·2^32 mod p
pub brought_word : (p n square r : ℕ) → p % 2 ≡ 1 → square ≡ 2 ^ 64 % p → r * 2 ^ 32 % p ≡ n * square % p → r < p → r ≡ n * 2 ^ 32 % p
brought_word p n square r odd squared reduced under =
    let twice : n * 2 ^ 32 * 2 ^ 32 % p ≡ n * square % p =
    ap (λ (y : ℕ). y % p) (mul_assoc n (2 ^ 32) (2 ^ 32)) ∙ sym (mul_mod_right n (2 ^ 64) p) ∙ ap (λ (y : ℕ). n * y % p) (sym squared) in
    sym (mod-eq_of_lt under) ∙ sym (halved_of p r (n * square) odd reduced) ∙ halved_of p (n * 2 ^ 32) (n * square) odd twice

pub brought_residue : (p n r : ℕ) → p % 2 ≡ 1 → r ≡ n * 2 ^ 32 % p → halved p r ≡ n % p
brought_residue p n r odd word = halved_of p n r odd (sym (mod-mod (n * 2 ^ 32) p) ∙ ap (λ (y : ℕ). y % p) (sym word))
