-- Remainders modulo p, as code computes them: what the crates above cite.
-- Main statements: mul-mod, pow-mod; minus_under, minus_back, minus_unique, minus_of_le, minus_of_lt, mul-minus;
-- signed_under, mul-signed; sum-mod; the sums of both kinds one term further (direct_sum_step, doubling_sum_step),
-- and their points and weights (direct_point_step, direct_weight_step, doubling_point_places, doubling_point_row,
-- doubling_weight_places, doubling_weight_row).
use mathlib.Core.Path.{◌≡◌, refl, ap, ap₂, sym, ◌∙◌}
use Prim.Native.Nat.{ℕ, zero, suc, ◌+◌, ◌-◌, ◌*◌, ◌/◌, ◌%◌, ◌^◌, ◌≤◌, ◌<◌}
use native.Mathlib.Nat.{mod-lt, mod-mod, zero-mod, mod-add-mod, pow-zero, pow-suc, pow-succ', zero-mul, mul-zero}
use native.Mathlib.Numerals.{add-one}
use native.Mathlib.Omega.{arith}
use lib.Pow.{pow-add}
use Rattle.theory.specs.Residues.{minus, inverse, signed}
use Rattle.theory.specs.Sums.{sum}
use Rattle.theory.specs.Direct.{half_below, direct_point, direct_quotient, direct_weight, direct_term, direct_sum}
use Rattle.theory.specs.Doubling.{row_length_of, doubling_point, doubling_weight, doubling_term, doubling_sum}
use Rattle.theory.proofs.Sums.{sum_zero, sum_suc}
use Rattle.theory.proofs.Congruence.{Cong, cong_refl, cong_sym, cong_trans, cong_of_eq, eq_cong, cong-add, cong_cancel_right, cong-mul, cong_mul_left, cong-pow, cong_rem, cong-mod, mod-cong, cong_under, cong_zero, sum-cong}
pub use Rattle.theory.proofs.Powers.{pow_one, one_pow, zero_pow, mul-pow, pow-mul}

-- products and powers

-- the left factor of a product may be taken by its remainder
pub mul_mod_left : (a b m : ℕ) → a % m * b % m ≡ a * b % m
mul_mod_left a b m = cong-mod (cong-mul (cong_rem m a) (cong_refl b))

-- the right factor may
pub mul_mod_right : (a b m : ℕ) → a * (b % m) % m ≡ a * b % m
mul_mod_right a b m = cong-mod (cong_mul_left a (cong_rem m b))

-- both factors may
pub mul-mod : (a b m : ℕ) → a % m * (b % m) % m ≡ a * b % m
mul-mod a b m = cong-mod (cong-mul (cong_rem m a) (cong_rem m b))

-- the base of a power may be taken by its remainder
pub pow-mod : (a n m : ℕ) → (a % m) ^ n % m ≡ a ^ n % m
pow-mod a n m = cong-mod (cong-pow n (cong_rem m a))

-- one power further
pub pow_step : (a k p : ℕ) → a ^ (k + 1) % p ≡ a * (a ^ k % p) % p
pow_step a k p = ap (λ (n : ℕ). a ^ n % p) (add-one k) ∙ ap (λ (n : ℕ). n % p) (pow-succ' a k) ∙ sym (mul_mod_right a (a ^ k) p)

-- differences

pub minus_under : (p a b : ℕ) → 0 < p → minus p a b < p
minus_under p a b pos = mod-lt (a % p + (p - b % p)) pos

-- a − b and b give a
pub minus-cong : (p a b : ℕ) → 0 < p → Cong p (minus p a b + b) a
minus-cong p a b pos =
    cong_trans
    (cong-add (cong_rem p (a % p + (p - b % p))) (cong_sym (cong_rem p b)))
    (eq_cong whole (cong_trans (cong-add (cong_rem p a) (cong_zero 1)) (cong_of_eq (omega arith))))
  where
    whole : a % p + (p - b % p) + b % p ≡ a % p + p * 1
    whole = omega (arith, mod-lt b pos)

pub minus_back : (p a b : ℕ) → 0 < p → (minus p a b + b) % p ≡ a % p
minus_back p a b pos = cong-mod (minus-cong p a b pos)

-- and no other residue does
pub minus_unique : (p a b x : ℕ) → x < p → (x + b) % p ≡ a % p → x ≡ minus p a b
minus_unique p a b x h e =
    cong_under h (minus_under p a b pos) (cong_cancel_right b (cong_trans (mod-cong e) (cong_sym (minus-cong p a b pos))))
  where
    pos : 0 < p
    pos = omega arith

pub minus_of_le : (p a b : ℕ) → b ≤ a → a < p → minus p a b ≡ a - b
minus_of_le p a b h u = sym (minus_unique p a b (a - b) (omega arith) (ap (λ (n : ℕ). n % p) (omega arith)))

pub minus_of_lt : (p a b : ℕ) → a < b → b < p → minus p a b ≡ a + (p - b)
minus_of_lt p a b h u =
    sym
    (minus_unique
    p
    a
    b
    (a + (p - b))
    (omega arith)
    (cong-mod (eq_cong whole (cong_trans (cong-add (cong_refl a) (cong_zero 1)) (cong_of_eq (omega arith))))))
  where
    whole : a + (p - b) + b ≡ a + p * 1
    whole = omega arith

-- minus speaks of residues
pub minus_congruent : {p a b c d : ℕ} → 0 < p → Cong p a c → Cong p b d → minus p a b ≡ minus p c d
minus_congruent {p} {a} {b} {c} {d} pos e f =
    minus_unique
    p
    c
    d
    (minus p a b)
    (minus_under p a b pos)
    (cong-mod (cong_trans (cong-add (cong_refl (minus p a b)) (cong_sym f)) (cong_trans (minus-cong p a b pos) e)))

-- both sides of a difference may be taken by their remainders
pub minus-mod : (p a b : ℕ) → minus p (a % p) (b % p) ≡ minus p a b
minus-mod p a b = ap₂ (λ (x y : ℕ). (x + (p - y)) % p) (mod-mod a p) (mod-mod b p)

-- a factor goes into a difference
pub mul-minus : (p c a b : ℕ) → 0 < p → c * minus p a b % p ≡ minus p (c * a) (c * b)
mul-minus p c a b pos =
    minus_unique
    p
    (c * a)
    (c * b)
    (c * minus p a b % p)
    (mod-lt (c * minus p a b) pos)
    (cong-mod
    (cong_trans
    (cong-add (cong_rem p (c * minus p a b)) (cong_refl (c * b)))
    (eq_cong (omega arith) (cong_mul_left c (minus-cong p a b pos)))))

-- to subtract is to add the negative
pub add_negative : (p a b : ℕ) → 0 < p → (a + minus p 0 b) % p ≡ minus p a b
add_negative p a b pos =
    minus_unique
    p
    a
    b
    ((a + minus p 0 b) % p)
    (mod-lt (a + minus p 0 b) pos)
    (cong-mod
    (cong_trans
    (cong-add (cong_rem p (a + minus p 0 b)) (cong_refl b))
    (eq_cong (omega arith) (cong_trans (cong-add (cong_refl a) (minus-cong p 0 b pos)) (cong_of_eq (omega arith))))))

-- signs

pub signed_under : (p d n : ℕ) → 0 < p → signed p d n < p
signed_under p zero n pos = mod-lt n pos
signed_under p (suc d) n pos = minus_under p 0 n pos

pub signed-mod : (p d n : ℕ) → 0 < p → signed p d (n % p) ≡ signed p d n
signed-mod p zero n pos = mod-mod n p
signed-mod p (suc d) n pos = minus_congruent pos (cong_refl 0) (cong_rem p n)

pub mul-signed : (p d c n : ℕ) → 0 < p → c * signed p d n % p ≡ signed p d (c * n)
mul-signed p zero c n pos = mul_mod_right c n p
mul-signed p (suc d) c n pos = mul-minus p c 0 n pos ∙ ap (λ (z : ℕ). minus p z (c * n)) (mul-zero c)

-- inverses

pub inverse_under : (p a : ℕ) → 0 < p → inverse p a < p
unfolding inverse
inverse_under p a pos = mod-lt (a ^ (p - 2)) pos

pub inverse-mod : (p a : ℕ) → inverse p (a % p) ≡ inverse p a
unfolding inverse
inverse-mod p a = pow-mod a (p - 2) p

-- sums

pub sum-mod : (n p : ℕ) (f : ℕ → ℕ) → sum n f % p ≡ sum n (λ i. f i % p) % p
sum-mod n p f = sym (cong-mod (sum-cong n (λ i. f i % p) f (λ i _. cong_rem p (f i))))

-- a sum modulo p, one term further
pub sum_step : (p n : ℕ) (f : ℕ → ℕ) → sum (n + 1) f % p ≡ (sum n f % p + f n) % p
sum_step p n f =
    ap (λ (m : ℕ). sum m f % p) (add-one n) ∙ ap (λ (m : ℕ). m % p) (sum_suc n f) ∙ sym (mod-add-mod (sum n f) p (f n))

-- the direct sum, term by term

pub direct_point_under : (p g i : ℕ) → 0 < p → direct_point p g i < p
unfolding direct_point
direct_point_under p g i pos = mod-lt (g ^ (i - 1)) pos

pub direct_point_first : (p g : ℕ) → direct_point p g 1 ≡ 1 % p
unfolding direct_point
direct_point_first p g = ap (λ (n : ℕ). n % p) (pow-zero g)

pub direct_point_step : (p g i : ℕ) → 1 ≤ i → direct_point p g (i + 1) ≡ g * direct_point p g i % p
unfolding direct_point
direct_point_step p g i h = ap (λ (n : ℕ). g ^ n % p) (omega arith) ∙ pow_step g (i - 1) p

-- g times the point of a term: p times its quotient, and the next point
pub direct_quotient_is : (p g i : ℕ) → direct_quotient p g i ≡ g * direct_point p g i / p
unfolding direct_quotient direct_point
direct_quotient_is p g i = refl

pub direct_weight_under : (p g k i : ℕ) → 0 < p → direct_weight p g k i < p
unfolding direct_weight
direct_weight_under p g k i pos = mod-lt (g ^ (i * (k - 1))) pos

pub direct_weight_zero : (p g k : ℕ) → direct_weight p g k 0 ≡ 1 % p
unfolding direct_weight
direct_weight_zero p g k = ap (λ (n : ℕ). n % p) (ap (λ (n : ℕ). g ^ n) (zero-mul (k - 1)) ∙ pow-zero g)

pub direct_weight_step : (p g k i : ℕ) → direct_weight p g k (i + 1) ≡ direct_weight p g k i * (g ^ (k - 1) % p) % p
unfolding direct_weight
direct_weight_step p g k i =
    ap (λ (n : ℕ). g ^ n % p) (omega arith)
    ∙ ap (λ (n : ℕ). n % p) (pow-add g (i * (k - 1)) (k - 1))
    ∙ sym (mul-mod (g ^ (i * (k - 1))) (g ^ (k - 1)) p)

pub direct_term_is
    : (p g k i : ℕ) → direct_term p g k i ≡ minus p (half_below p g) (direct_quotient p g i) * direct_weight p g k i % p
unfolding direct_term
direct_term_is p g k i = refl

pub direct_term_under : (p g k i : ℕ) → 0 < p → direct_term p g k i < p
unfolding direct_term
direct_term_under p g k i pos = mod-lt (minus p (half_below p g) (direct_quotient p g i) * direct_weight p g k i) pos

pub direct_sum_under : (p g k t : ℕ) → 0 < p → direct_sum p g k t < p
unfolding direct_sum
direct_sum_under p g k t pos = mod-lt (sum t (λ j. direct_term p g k (j + 1))) pos

pub direct_sum_zero : (p g k : ℕ) → direct_sum p g k 0 ≡ 0
unfolding direct_sum
direct_sum_zero p g k = ap (λ (n : ℕ). n % p) (sum_zero (λ j. direct_term p g k (j + 1))) ∙ zero-mod p

pub direct_sum_step : (p g k t : ℕ) → direct_sum p g k (t + 1) ≡ (direct_sum p g k t + direct_term p g k (t + 1)) % p
unfolding direct_sum
direct_sum_step p g k t = sum_step p t (λ j. direct_term p g k (j + 1))

-- the doubling sum, term by term

pub doubling_point_under : (p g i j : ℕ) → 0 < p → doubling_point p g i j < p
unfolding doubling_point
doubling_point_under p g i j pos = mod-lt (g ^ i * 2 ^ j) pos

pub doubling_point_first : (p g : ℕ) → doubling_point p g 0 0 ≡ 1 % p
unfolding doubling_point
doubling_point_first p g = ap (λ (n : ℕ). n * 1 % p) (pow-zero g)

-- u places further in a row, and one place further
pub doubling_point_places : (p g i j u : ℕ) → doubling_point p g i (j + u) ≡ 2 ^ u * doubling_point p g i j % p
unfolding doubling_point
doubling_point_places p g i j u =
    ap (λ (n : ℕ). n % p) (ap (λ (n : ℕ). g ^ i * n) (pow-add 2 j u) ∙ omega arith)
    ∙ sym (mul_mod_right (2 ^ u) (g ^ i * 2 ^ j) p)

pub doubling_point_place : (p g i j : ℕ) → doubling_point p g i (j + 1) ≡ 2 * doubling_point p g i j % p
doubling_point_place p g i j = doubling_point_places p g i j 1

-- one row further at the same place
pub doubling_point_row : (p g i j : ℕ) → doubling_point p g (i + 1) j ≡ g * doubling_point p g i j % p
unfolding doubling_point
doubling_point_row p g i j =
    ap
    (λ (n : ℕ). n % p)
    (ap (λ (n : ℕ). g ^ n * 2 ^ j) (add-one i) ∙ omega (arith, ap (λ (n : ℕ). n * 2 ^ j) (pow-succ' g i)))
    ∙ sym (mul_mod_right g (g ^ i * 2 ^ j) p)

pub doubling_weight_under : (p g k i j : ℕ) → 0 < p → doubling_weight p g k i j < p
unfolding doubling_weight
doubling_weight_under p g k i j pos = mod-lt ((g ^ (k - 1)) ^ i * (2 ^ (k - 1)) ^ j) pos

pub doubling_weight_first : (p g k : ℕ) → doubling_weight p g k 0 0 ≡ 1 % p
unfolding doubling_weight
doubling_weight_first p g k = ap (λ (n : ℕ). n % p) (ap₂ ◌*◌ (pow-zero (g ^ (k - 1))) (pow-zero (2 ^ (k - 1))))

pub doubling_weight_places
    : (p g k i j u : ℕ)
    → doubling_weight p g k i (j + u) ≡ doubling_weight p g k i j * ((2 ^ (k - 1)) ^ u % p) % p
unfolding doubling_weight
doubling_weight_places p g k i j u =
    ap
    (λ (n : ℕ). n % p)
    (ap (λ (n : ℕ). (g ^ (k - 1)) ^ i * n) (pow-add (2 ^ (k - 1)) j u) ∙ omega arith)
    ∙ sym (mul-mod ((g ^ (k - 1)) ^ i * (2 ^ (k - 1)) ^ j) ((2 ^ (k - 1)) ^ u) p)

pub doubling_weight_place
    : (p g k i j : ℕ) → doubling_weight p g k i (j + 1) ≡ doubling_weight p g k i j * (2 ^ (k - 1) % p) % p
doubling_weight_place p g k i j =
    doubling_weight_places p g k i j 1 ∙ ap (λ (n : ℕ). doubling_weight p g k i j * (n % p) % p) (pow_one (2 ^ (k - 1)))

pub doubling_weight_row
    : (p g k i j : ℕ) → doubling_weight p g k (i + 1) j ≡ doubling_weight p g k i j * (g ^ (k - 1) % p) % p
unfolding doubling_weight
doubling_weight_row p g k i j =
    ap
    (λ (n : ℕ). n % p)
    (ap (λ (n : ℕ). (g ^ (k - 1)) ^ n * (2 ^ (k - 1)) ^ j) (add-one i)
    ∙ omega (arith, ap (λ (n : ℕ). n * (2 ^ (k - 1)) ^ j) (pow-suc (g ^ (k - 1)) i)))
    ∙ sym (mul-mod ((g ^ (k - 1)) ^ i * (2 ^ (k - 1)) ^ j) (g ^ (k - 1)) p)

pub doubling_term_is
    : (p g k i j : ℕ)
    → doubling_term p g k i j ≡ signed p (2 * doubling_point p g i j / p) (doubling_weight p g k i j)
unfolding doubling_term
doubling_term_is p g k i j = refl

pub doubling_term_under : (p g k i j : ℕ) → 0 < p → doubling_term p g k i j < p
unfolding doubling_term
doubling_term_under p g k i j pos = signed_under p (2 * doubling_point p g i j / p) (doubling_weight p g k i j) pos

pub doubling_sum_under : (p g k t : ℕ) → 0 < p → doubling_sum p g k t < p
unfolding doubling_sum
doubling_sum_under p g k t pos =
    mod-lt (sum t (λ s. doubling_term p g k (s / row_length_of p) (s % row_length_of p))) pos

pub doubling_sum_zero : (p g k : ℕ) → doubling_sum p g k 0 ≡ 0
unfolding doubling_sum
doubling_sum_zero p g k =
    ap (λ (n : ℕ). n % p) (sum_zero (λ s. doubling_term p g k (s / row_length_of p) (s % row_length_of p))) ∙ zero-mod p

pub doubling_sum_step
    : (p g k t : ℕ)
    → doubling_sum p g k (t + 1)
    ≡ (doubling_sum p g k t + doubling_term p g k (t / row_length_of p) (t % row_length_of p)) % p
unfolding doubling_sum
doubling_sum_step p g k t = sum_step p t (λ s. doubling_term p g k (s / row_length_of p) (s % row_length_of p))
