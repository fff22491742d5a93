-- Groups of w binary digits: which digit stands where, how large a group is, and how near the reciprocal's guess comes.
-- Main statements: digit_law, group_under, guess_low, guess_high, guess_near, whole_quotient, whole_remainder.
-- Assumes nothing.
use Rattle.std.proofs.Common.{◌≡◌, ℕ, suc, ◌+◌, ◌-◌, ◌*◌, ◌/◌, ◌%◌, ◌^◌, ◌<◌, ◌≤◌, sym, ap, ◌∙◌, subst, mul-le-mul_right, mod-lt, mod-eq_of_lt, mul_comm, div-lt_iff_lt-mul, mul-le-mul, mul-le-mul_left, pow-suc, le-div_iff_mul-le, div-mul-le_self, arith, pow_pos, pow-add}
use native.Mathlib.Nat.{div-div-eq-div-mul, mul-div-mul_left, mul-add-div, div-add-mod, mul-lt-mul_of_pos_left, le_of_mul-le-mul_left, lt_of_mul-lt-mul_left}
use lib.Arith.{digits_div, digits_mod}
use Rattle.digits.specs.Digits.{digit}
use Rattle.digits.specs.Guesses.{Near}

-- the first u + 1 digits of a group
first_digits : (p w u x : ℕ) → u < w → 2 ^ w * x / p / 2 ^ (w - 1 - u) ≡ 2 ^ suc u * x / p
first_digits p w u x in_group =
    let rest = w - 1 - u in
    let places : rest + suc u ≡ w = omega arith in
    let power : 2 ^ w ≡ 2 ^ rest * 2 ^ suc u = sym (ap (λ (k : ℕ). 2 ^ k) places) ∙ pow-add 2 rest (suc u) in
    let spread : 2 ^ w * x ≡ 2 ^ rest * (2 ^ suc u * x) = omega (arith, ap (λ (k : ℕ). k * x) power) in
    div-div-eq-div-mul (2 ^ w * x) p (2 ^ rest)
    ∙ ap (λ (k : ℕ). k / (p * 2 ^ rest)) spread
    ∙ ap (λ (k : ℕ). 2 ^ rest * (2 ^ suc u * x) / k) (mul_comm p (2 ^ rest))
    ∙ mul-div-mul_left (2 ^ suc u * x) p (pow_pos rest)

-- the last digit of the whole quotient of 2·y by p
last_digit : (p y : ℕ) → 0 < p → 2 * y / p % 2 ≡ 2 * (y % p) / p
last_digit p y positive =
    let r = y % p in
    let q = y / p in
    let under : r < p = mod-lt y positive in
    let whole : 2 * y ≡ p * (2 * q) + 2 * r = omega (arith, div-add-mod y p) in
    let one-digit : 2 * r / p < 2 = (div-lt_iff_lt-mul {k = p} {x = 2 * r} {y = 2} positive).1 (omega arith) in
    ap (λ (k : ℕ). k / p % 2) whole
    ∙ ap (λ (k : ℕ). k % 2) (mul-add-div {m = p} positive (2 * q) (2 * r))
    ∙ omega arith

-- digit u of the whole quotient of 2^w·x by p: 1 exactly where the remainder of 2^u·x by p is above p/2
pub digit_law : (p w u x : ℕ) → 0 < p → u < w → digit w u (2 ^ w * x / p) ≡ 2 * (2 ^ u * x % p) / p
digit_law p w u x positive in_group =
    let next : 2 ^ suc u * x ≡ 2 * (2 ^ u * x) = omega (arith, ap (λ (k : ℕ). k * x) (pow-suc 2 u)) in
    ap (λ (k : ℕ). k % 2) (first_digits p w u x in_group)
    ∙ ap (λ (k : ℕ). k / p % 2) next
    ∙ last_digit p (2 ^ u * x) positive

-- for x below p a group has no more than w digits
pub group_under : (p w x : ℕ) → x < p → 2 ^ w * x / p < 2 ^ w
group_under p w x under =
    (div-lt_iff_lt-mul {k = p} {x = 2 ^ w * x} {y = 2 ^ w} (omega arith)).1 (mul-lt-mul_of_pos_left under (pow_pos w))

-- the guess from the whole quotient of l·v by p, l what is dropped: it is not too large
guess_below : (p l v x : ℕ) → 0 < p → 0 < l → x * (l * v / p) / l ≤ v * x / p
guess_below p l v x positive some =
    let r = l * v / p in
    let g = x * r / l in
    let dropped : g * l * p ≤ x * r * p = mul-le-mul_right p (div-mul-le_self (x * r) l) in
    let whole : x * (r * p) ≤ x * (l * v) = mul-le-mul_left x (div-mul-le_self (l * v) p) in
    let scaled : l * (g * p) ≤ l * (v * x) = omega arith in
    (le-div_iff_mul-le {k = p} {x = g} {y = v * x} positive).1 (le_of_mul-le-mul_left scaled some)

-- and at most one too small
guess_above : (p l v x : ℕ) → 0 < p → 0 < l → x ≤ l → v * x / p ≤ x * (l * v / p) / l + 1
guess_above p l v x positive some small =
    let r = l * v / p in
    let s = l * v % p in
    let g = x * r / l in
    let t = x * r % l in
    let rest : s < p = mod-lt (l * v) positive in
    let dropped : t < l = mod-lt (x * r) some in
    let low_part : suc t * p ≤ l * p = mul-le-mul_right p dropped in
    let rest_part : s * x ≤ p * l = mul-le-mul {n₁ = s} {m₁ = x} {n₂ = p} {m₂ = l} (omega arith) small in
    let scaled : l * (v * x) < l * ((g + 2) * p) =
    omega (arith, ap (λ (k : ℕ). k * x) (div-add-mod (l * v) p), ap (λ (k : ℕ). k * p) (div-add-mod (x * r) l)) in
    let less : v * x / p < g + 2 = (div-lt_iff_lt-mul {k = p} {x = v * x} {y = g + 2} positive).1 (lt_of_mul-lt-mul_left l scaled) in
    omega arith

-- what is kept and what is dropped of e bits
parts : (e w : ℕ) → w ≤ e → 2 ^ e ≡ 2 ^ (e - w) * 2 ^ w
parts e w within = let places : e - w + w ≡ e = omega arith in sym (ap (λ (k : ℕ). 2 ^ k) places) ∙ pow-add 2 (e - w) w

-- the guess from the whole quotient of 2^e by p, of which e − w bits are dropped, is not too large
pub guess_low : (p e w x : ℕ) → 0 < p → w ≤ e → x * (2 ^ e / p) / 2 ^ (e - w) ≤ 2 ^ w * x / p
guess_low p e w x positive within =
    let P : ℕ → Type 0 = λ y. x * (y / p) / 2 ^ (e - w) ≤ 2 ^ w * x / p in
    subst P (sym (parts e w within)) (guess_below p (2 ^ (e - w)) (2 ^ w) x positive (pow_pos (e - w)))

-- and at most one too small
pub guess_high : (p e w x : ℕ) → 0 < p → w ≤ e → x ≤ 2 ^ (e - w) → 2 ^ w * x / p ≤ x * (2 ^ e / p) / 2 ^ (e - w) + 1
guess_high p e w x positive within small =
    let P : ℕ → Type 0 = λ y. 2 ^ w * x / p ≤ x * (y / p) / 2 ^ (e - w) + 1 in
    subst P (sym (parts e w within)) (guess_above p (2 ^ (e - w)) (2 ^ w) x positive (pow_pos (e - w)) small)

-- the product that the guess is cut from, for x below p
pub guess_product : (p e x : ℕ) → x < p → x * (2 ^ e / p) ≤ 2 ^ e
guess_product p e x under =
    omega (arith, mul-le-mul_right {m = x} {n = p} (2 ^ e / p) (omega arith), div-mul-le_self (2 ^ e) p)

-- the guess in words of m values
pub guess_near : (p e w x m : ℕ) → 0 < p → w ≤ e → x < p → x ≤ 2 ^ (e - w) → 2 ^ e < m → Near (2 ^ w * x / p) (x * (2 ^ e / p) % m / 2 ^ (e - w))
guess_near p e w x m positive within under small room =
    let same : x * (2 ^ e / p) % m / 2 ^ (e - w) ≡ x * (2 ^ e / p) / 2 ^ (e - w) =
    ap (λ (k : ℕ). k / 2 ^ (e - w)) (mod-eq_of_lt (omega (arith, guess_product p e x under))) in
    record {
      low = omega (arith, guess_low p e w x positive within);
      high = omega (arith, guess_high p e w x positive within small);
    }

-- a quotient and a rest below p that make up n are the whole quotient and the remainder
pub whole_quotient : (p n q r : ℕ) → q * p + r ≡ n → r < p → q ≡ n / p
whole_quotient p n q r same under = sym (digits_div q under) ∙ ap (λ (k : ℕ). k / p) same

pub whole_remainder : (p n q r : ℕ) → q * p + r ≡ n → r < p → r ≡ n % p
whole_remainder p n q r same under = sym (digits_mod q under) ∙ ap (λ (k : ℕ). k % p) same
