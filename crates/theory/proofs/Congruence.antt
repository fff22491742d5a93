-- Congruences: a and b leave the same remainder by m, told without subtraction or remainder.
-- Main statements: Cong is an equivalence that sums, products and powers keep; mod-cong and cong-mod pass to
-- remainders and back; cong_scale and cong_unscale pass from p to p² and back.
use mathlib.Core.Path.{◌≡◌, refl, ap, sym, ◌∙◌}
use mathlib.Core.Logic.{◌≢◌}
use Prim.Native.Nat.{ℕ, zero, suc, ◌+◌, ◌*◌, ◌/◌, ◌%◌, ◌^◌, ◌<◌}
use native.Mathlib.Nat.{lt-suc_self, le_step, pow-zero, pow-suc, mod-add-div, mod-eq_of_lt, add-mul-mod_self_left, eq_of_mul-eq-mul_left, zero-mod, mul-zero, le_of_lt, ne_of_lt, zero-lt-suc}
use native.Mathlib.Omega.{arith}
use Rattle.theory.specs.Sums.{sum}
use Rattle.theory.proofs.Powers.{one_pow, mul-pow}
use Rattle.theory.proofs.Sums.{sum_zero, sum_suc}

-- a and b differ by multiples of m
pub record Cong (m a b : ℕ) : Type 0 where
  pub up : ℕ
  pub down : ℕ
  pub same : a + m * up ≡ b + m * down

pub cong_of_eq : {m a b : ℕ} → a ≡ b → Cong m a b
cong_of_eq {m} e = record { up = 0; down = 0; same = ap (λ (x : ℕ). x + m * 0) e }

pub cong_refl : {m : ℕ} (a : ℕ) → Cong m a a
cong_refl a = cong_of_eq refl

pub cong_sym : {m a b : ℕ} → Cong m a b → Cong m b a
cong_sym c = record { up = c.down; down = c.up; same = sym c.same }

pub cong_trans : {m a b c : ℕ} → Cong m a b → Cong m b c → Cong m a c
cong_trans d e = record { up = d.up + e.up; down = d.down + e.down; same = omega (arith, d.same, e.same) }

-- an equation before or behind a congruence
pub eq_cong : {m a b c : ℕ} → a ≡ b → Cong m b c → Cong m a c
eq_cong e c = cong_trans (cong_of_eq e) c

pub cong_eq : {m a b c : ℕ} → Cong m a b → b ≡ c → Cong m a c
cong_eq c e = cong_trans c (cong_of_eq e)

pub cong-add : {m a b c d : ℕ} → Cong m a b → Cong m c d → Cong m (a + c) (b + d)
cong-add e f = record { up = e.up + f.up; down = e.down + f.down; same = omega (arith, e.same, f.same) }

-- a common summand goes
pub cong_cancel : {m : ℕ} (c : ℕ) {a b : ℕ} → Cong m (c + a) (c + b) → Cong m a b
cong_cancel c e = record { up = e.up; down = e.down; same = omega (arith, e.same) }

pub cong_cancel_right : {m : ℕ} (c : ℕ) {a b : ℕ} → Cong m (a + c) (b + c) → Cong m a b
cong_cancel_right c e = record { up = e.up; down = e.down; same = omega (arith, e.same) }

-- congruent summands go
pub cong_subtract : {m a b c d : ℕ} → Cong m (c + a) (d + b) → Cong m c d → Cong m a b
cong_subtract {m} {a} {b} {c} {d} e f = cong_cancel d (cong_trans (cong-add (cong_sym f) (cong_refl a)) e)

pub cong_mul_left : {m : ℕ} (c : ℕ) {a b : ℕ} → Cong m a b → Cong m (c * a) (c * b)
cong_mul_left c e =
    record
    { up = c * e.up; down = c * e.down; same = omega (arith, ap (λ (x : ℕ). c * x) e.same) }

pub cong-mul : {m a b c d : ℕ} → Cong m a b → Cong m c d → Cong m (a * c) (b * d)
cong-mul {m} {a} {b} {c} {d} e f =
    cong_trans
    (cong_mul_left a f)
    (eq_cong (mul_comm a d) (cong_eq (cong_mul_left d e) (mul_comm d b)))
  where
    mul_comm : (x y : ℕ) → x * y ≡ y * x
    mul_comm x y = omega arith

-- a factor with an inverse goes
pub cong_divide : {m : ℕ} (c a : ℕ) {x y : ℕ} → Cong m (c * a) 1 → Cong m (a * x) (a * y) → Cong m x y
cong_divide {m} c a {x} {y} unit e = cong_trans (cong_sym (alone x)) (cong_trans (cong_mul_left c e) (alone y))
  where
    alone : (z : ℕ) → Cong m (c * (a * z)) z
    alone z = eq_cong (omega arith) (cong_eq (cong-mul unit (cong_refl z)) (omega arith))

pub cong-pow : {m a b : ℕ} (k : ℕ) → Cong m a b → Cong m (a ^ k) (b ^ k)
cong-pow {m} {a} {b} zero e = cong_of_eq (pow-zero a ∙ sym (pow-zero b))
cong-pow {m} {a} {b} (suc k) e = eq_cong (pow-suc a k) (cong_eq (cong-mul (cong-pow k e) e) (sym (pow-suc b k)))

-- multiples of m may be added
pub cong_multiple : {m : ℕ} (a c : ℕ) → Cong m (a + m * c) a
cong_multiple a c = record { up = 0; down = c; same = omega arith }

pub cong_zero : {m : ℕ} (c : ℕ) → Cong m (m * c) 0
cong_zero c = record { up = 0; down = c; same = omega arith }

-- remainders, and back
pub cong_rem : (m a : ℕ) → Cong m (a % m) a
cong_rem m a = record { up = a / m; down = 0; same = omega (arith, mod-add-div a m) }

pub cong-mod : {m a b : ℕ} → Cong m a b → a % m ≡ b % m
cong-mod {m} {a} {b} e =
    sym (add-mul-mod_self_left a m e.up) ∙ ap (λ (x : ℕ). x % m) e.same ∙ add-mul-mod_self_left b m e.down

pub mod-cong : {m a b : ℕ} → a % m ≡ b % m → Cong m a b
mod-cong {m} {a} {b} e = cong_trans (cong_sym (cong_rem m a)) (eq_cong e (cong_rem m b))

-- the remainders 0 and 1
pub mod_zero_cong : {m a : ℕ} → a % m ≡ 0 → Cong m a 0
mod_zero_cong {m} e = mod-cong (e ∙ sym (zero-mod m))

pub cong_mod_zero : {m a : ℕ} → Cong m a 0 → a % m ≡ 0
cong_mod_zero {m} e = cong-mod e ∙ zero-mod m

pub mod_one_cong : {m a : ℕ} → 1 < m → a % m ≡ 1 → Cong m a 1
mod_one_cong big e = mod-cong (e ∙ sym (mod-eq_of_lt big))

pub cong_mod_one : {m a : ℕ} → 1 < m → Cong m a 1 → a % m ≡ 1
cong_mod_one big e = cong-mod e ∙ mod-eq_of_lt big

-- congruent numbers below m are equal
pub cong_under : {m a b : ℕ} → a < m → b < m → Cong m a b → a ≡ b
cong_under p q e = sym (mod-eq_of_lt p) ∙ cong-mod e ∙ mod-eq_of_lt q

-- what has an inverse: its powers have, products have, and it is not 0
pub unit_pow : {m : ℕ} (c a i : ℕ) → Cong m (c * a) 1 → Cong m (c ^ i * a ^ i) 1
unit_pow c a i unit = eq_cong (sym (mul-pow c a i)) (cong_eq (cong-pow i unit) (one_pow i))

pub unit_mul : {m : ℕ} (c a d b : ℕ) → Cong m (c * a) 1 → Cong m (d * b) 1 → Cong m (c * d * (a * b)) 1
unit_mul c a d b e f = eq_cong (omega arith) (cong-mul e f)

pub unit_not_zero : {m : ℕ} (c a : ℕ) → 1 < m → Cong m (c * a) 1 → a % m ≢ 0
unit_not_zero {m} c a big unit e =
    ne_of_lt
    (zero-lt-suc 0)
    (cong_under
    (le_of_lt big)
    big
    (cong_trans (cong_sym (cong_eq (cong_mul_left c (mod_zero_cong e)) (mul-zero c))) unit))

-- from m to the multiples of m, and back
pub cong_scale : {m a b : ℕ} (c : ℕ) → Cong m a b → Cong (c * m) (c * a) (c * b)
cong_scale c e = record { up = e.up; down = e.down; same = omega (arith, ap (λ (x : ℕ). c * x) e.same) }

pub cong_unscale : {m a b : ℕ} (c : ℕ) → 0 < c → Cong (c * m) (c * a) (c * b) → Cong m a b
cong_unscale {m} {a} {b} c pos e =
    record {
      up = e.up;
      down = e.down;
      same = eq_of_mul-eq-mul_left c pos (a + m * e.up) (b + m * e.down) (omega (arith, e.same));
    }

-- sums of congruent terms are congruent
pub sum-cong : {m : ℕ} (n : ℕ) (f g : ℕ → ℕ) → ((i : ℕ) → i < n → Cong m (f i) (g i)) → Cong m (sum n f) (sum n g)
sum-cong zero f g e = cong_of_eq (sum_zero f ∙ sym (sum_zero g))
sum-cong (suc n) f g e =
    eq_cong
    (sum_suc n f)
    (cong_eq (cong-add (sum-cong n f g (λ i h. e i (le_step h))) (e n (lt-suc_self n))) (sym (sum_suc n g)))
