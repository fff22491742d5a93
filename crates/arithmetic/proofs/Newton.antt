-- Newton's step for the inverse of p modulo a power of 2: it doubles the bits that are right.
-- Main statements: newton, newton_bits, odd_square.
-- Assumes nothing.
use Rattle.std.proofs.Common.{◌≡◌, ℕ, zero, suc, ◌+◌, ◌-◌, ◌*◌, ◌/◌, ◌%◌, ◌^◌, ◌<◌, ◌≤◌, sym, refl, ap, ◌∙◌, mod-lt, mod-eq_of_lt, arith, pow_mono, pow-add}
use native.Mathlib.Nat.{add-mul-mod_self_left, mod-add-div}

-- z leaves 1 by k, and y leaves 2 − z by n, a divisor of k·k: then z·y leaves 1 by n
newton_product : (z y k n c e s t : ℕ) → k * k ≡ n * e → z ≡ 1 + k * c → y + z + n * s ≡ 2 + n * t → z * y % n ≡ 1 % n
newton_product z y k n c e s t divides one two =
    let less : y + k * c + n * s ≡ 1 + n * t = omega arith in
    let whole : z * y + n * (e * c * c + k * c * s + s) ≡ 1 + n * (t + k * c * t) =
    omega (arith, ap (λ (v : ℕ). v * (c * c)) divides, ap (λ (v : ℕ). v * y) one, ap (λ (v : ℕ). v * (k * c)) less) in
    sym (add-mul-mod_self_left (z * y) n (e * c * c + k * c * s + s))
    ∙ ap (λ (v : ℕ). v % n) whole
    ∙ add-mul-mod_self_left 1 n (t + k * c * t)

-- the step in words of m values, where n divides both m and k·k
pub newton : (p x m k n d e : ℕ) → 0 < m → m ≡ n * d → k * k ≡ n * e → p * x % k ≡ 1
    → p * (x * ((2 + (m - p * x % m)) % m) % m) % n ≡ 1 % n
newton p x m k n d e words word-divides divides right =
    let z = p * x in
    let w = z % m in
    let y = (2 + (m - w)) % m in
    let q = (2 + (m - w)) / m in
    let under : w < m = mod-lt z words in
    let one : z ≡ 1 + k * (z / k) = omega (arith, mod-add-div z k) in
    let around : y + m * q ≡ 2 + (m - w) = mod-add-div (2 + (m - w)) m in
    let two : y + z + n * (d * q) ≡ 2 + n * (d + d * (z / m)) =
    omega (arith, mod-add-div z m, ap (λ (v : ℕ). v * q) word-divides, ap (λ (v : ℕ). v * (z / m)) word-divides) in
    let split : p * (x * y % m) + n * (d * (x * y / m) * p) ≡ z * y =
    omega (arith, ap (λ (v : ℕ). p * v) (mod-add-div (x * y) m), ap (λ (v : ℕ). v * (x * y / m) * p) word-divides) in
    sym (add-mul-mod_self_left (p * (x * y % m)) n (d * (x * y / m) * p))
    ∙ ap (λ (v : ℕ). v % n) split
    ∙ newton_product z y k n (z / k) e (d * q) (d + d * (z / m)) divides one two

-- from k bits to j bits, at most twice as many, in words of 32 bits
pub newton_bits : (p x k j : ℕ) → p * x % 2 ^ k ≡ 1 → 1 ≤ j → j ≤ 2 * k → j ≤ 32
    → p * (x * ((2 + (2 ^ 32 - p * x % 2 ^ 32)) % 2 ^ 32) % 2 ^ 32) % 2 ^ j ≡ 1
newton_bits p x k j right some twice short =
    let word-bits : j + (32 - j) ≡ 32 = omega arith in
    let bits : j + (k + k - j) ≡ k + k = omega arith in
    let two : 2 ^ 1 ≤ 2 ^ j = pow_mono some in
    newton p x (2 ^ 32) (2 ^ k) (2 ^ j) (2 ^ (32 - j)) (2 ^ (k + k - j)) (omega arith)
    (sym (sym (pow-add 2 j (32 - j)) ∙ ap (λ (v : ℕ). 2 ^ v) word-bits))
    (sym (pow-add 2 k k) ∙ sym (ap (λ (v : ℕ). 2 ^ v) bits) ∙ pow-add 2 j (k + k - j))
    right
    ∙ mod-eq_of_lt (omega arith)

-- one of two numbers in a row is even
consecutive : (h : ℕ) → h * (h + 1) % 2 ≡ 0
consecutive zero = refl
consecutive (suc h) = let e : suc h * (suc h + 1) ≡ h * (h + 1) + 2 * (h + 1) = omega arith in omega (arith, consecutive h)

-- an odd number is its own inverse modulo 8
pub odd_square : (p : ℕ) → p % 2 ≡ 1 → p * p % 2 ^ 3 ≡ 1
odd_square p odd =
    let h = p / 2 in
    let whole : p ≡ 2 * h + 1 = omega arith in
    let square : p * p ≡ 4 * (h * (h + 1)) + 1 = omega (arith, ap (λ (v : ℕ). v * v) whole) in
    let even : h * (h + 1) % 2 ≡ 0 = consecutive h in
    omega arith
