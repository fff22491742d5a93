-- The order of 2 by an odd p, and the length of a row.
-- Main statements: order_is (the computed order is the order), order_unique, order_divides, row_length_returns and
-- row_length_first (the length of a row is the order of 4), rows-fit (2n' divides p − 1 exactly where 2^(p − 1) leaves
-- 1), order_is_least_divisor.
use mathlib.Core.Path.{◌≡◌, refl, ap, ap₂, sym, ◌∙◌, subst}
use mathlib.Core.Bool.{Bool, true, false, cond}
use mathlib.Core.Logic.{◌≢◌, ◌⊎◌, inl, inr}
use Prim.Native.Nat.{ℕ, zero, suc, ◌+◌, ◌-◌, ◌*◌, ◌/◌, ◌%◌, ◌^◌, ◌≤◌, ◌<◌}
use native.Mathlib.Nat.{mod-lt, mod-eq_of_lt, mod-eq-sub-mod, mod-add-div, mul-one, eq-zero-or-pos, eq-or-lt_of_le, mul-mod_right}
use native.Mathlib.Decide.{dec_lt}
use native.Mathlib.Omega.{arith}
use lib.Pow.{pow-add}
use lib.Dec.{eqb}
use borrow.Author.Tests.{eqb-true, eqb_apart}
use Rattle.theory.specs.Doubling.{Order, first_one, order, row_length_of}
use Rattle.theory.proofs.Powers.{one_pow, pow-mul}
use Rattle.theory.proofs.Congruence.{Cong, cong_sym, cong_trans, eq_cong, cong_eq, cong_mul_left, cong-pow, mod-cong, mod_one_cong, cong_mod_one, cong_divide, unit_pow, unit_not_zero}
use Rattle.theory.proofs.Counting.{OneToOne, one_to_one_meets}

-- r is the first number from lo on, and it lies below hi, with 2^r leaving 1
record First (p lo hi r : ℕ) : Type 0 where
  from : lo ≤ r
  below : r < hi
  one : 2 ^ r % p ≡ 1
  none_before : (m : ℕ) → lo ≤ m → m < r → 2 ^ m % p ≢ 1

-- no number from lo to below hi leaves 1
abbrev None : ℕ → ℕ → ℕ → Type 0
None p lo hi = (m : ℕ) → lo ≤ m → m < hi → 2 ^ m % p ≢ 1

none_more : (p lo hi : ℕ) → 2 ^ lo % p ≢ 1 → None p (suc lo) hi → None p lo hi
none_more p lo hi here more m a b =
    elim (eq-or-lt_of_le a) [ inl e ↦ subst (λ (z : ℕ). 2 ^ z % p ≢ 1) e here | inr u ↦ more m u b ]

first_one_is : (p steps n : ℕ) → First p n (n + steps) (first_one p steps n) ⊎ None p n (n + steps)
unfolding first_one
first_one_is p zero n = inr (λ m a b _. omega arith)
first_one_is p (suc steps) n = at (first_one_is p steps (suc n)) (eqb (2 ^ n % p) 1) refl
  where
    at
        : First p (suc n) (suc n + steps) (first_one p steps (suc n)) ⊎ None p (suc n) (suc n + steps)
        → (t : Bool)
        → eqb (2 ^ n % p) 1 ≡ t
        → First p n (n + suc steps) (elim t [ true ↦ n | false ↦ first_one p steps (suc n) ]) ⊎ None p n (n + suc steps)
    at _ true e =
        inl
        record {
          from = omega arith;
          below = omega arith;
          one = eqb-true (2 ^ n % p) 1 e;
          none_before = λ m a b _. omega arith;
        }
    at (inl f) false e =
        inl
        record {
          from = omega (arith, f.from);
          below = omega (arith, f.below);
          one = f.one;
          none_before = none_more p n (first_one p steps (suc n)) (eqb_apart (2 ^ n % p) 1 e) f.none_before;
        }
    at (inr none) false e =
        inr (none_more p n (n + suc steps) (eqb_apart (2 ^ n % p) 1 e) (λ m a b. none m a (omega arith)))

-- the order of 2: least, so one; and it divides each e with 2^e leaving 1

pub order_unique : (p m n : ℕ) → Order p m → Order p n → m ≡ n
order_unique p m n a b = omega (arith, not_below m n a b, not_below n m b a)
  where
    not_below : (i j : ℕ) → Order p i → Order p j → ¬ (i < j)
    not_below i j c d u = d.least i c.positive u c.leaves_one

module _ (p n : ℕ) (big : 1 < p) (is : Order p n) where
  pub order_multiple : (c : ℕ) → Cong p (2 ^ (n * c)) 1
  order_multiple c = eq_cong (pow-mul 2 n c) (cong_eq (cong-pow c (mod_one_cong big is.leaves_one)) (one_pow c))

  pub order_divides : (e : ℕ) → Cong p (2 ^ e) 1 → e % n ≡ 0
  order_divides e one = elim (eq-zero-or-pos (e % n)) [ inl z ↦ z | inr u ↦ absurd (early u) ]
    where
      rest : Cong p (2 ^ e) (2 ^ (e % n))
      rest =
          eq_cong
          (ap (λ (z : ℕ). 2 ^ z) (sym (mod-add-div e n)) ∙ pow-add 2 (e % n) (n * (e / n)))
          (cong_eq (cong_mul_left (2 ^ (e % n)) (order_multiple (e / n))) (mul-one (2 ^ (e % n))))

      early : 0 < e % n → ⊥
      early u =
          is.least
          (e % n)
          u
          (mod-lt e is.positive)
          (cong_mod_one big (cong_trans (cong_sym rest) one))

-- an odd modulus
module _ (p h : ℕ) (odd : p ≡ suc (h + h)) (some : 0 < h) where
  big : 1 < p
  big = omega arith

  -- h + 1 is the half of 1
  pub half_of_one : (i : ℕ) → Cong p (suc h ^ i * 2 ^ i) 1
  half_of_one i = unit_pow (suc h) 2 i (record { up = 0; down = 1; same = omega arith })

  pub two_cancel : (i : ℕ) {x y : ℕ} → Cong p (2 ^ i * x) (2 ^ i * y) → Cong p x y
  two_cancel i e = cong_divide (suc h ^ i) (2 ^ i) (half_of_one i) e

  pub two_not_zero : (i : ℕ) → 2 ^ i % p ≢ 0
  two_not_zero i = unit_not_zero (suc h ^ i) (2 ^ i) big (half_of_one i)

  -- equal powers of 2 have a power between them that leaves 1
  pub between : (i j : ℕ) → i < j → Cong p (2 ^ i) (2 ^ j) → Cong p (2 ^ (j - i)) 1
  between i j u e =
      cong_sym
      (two_cancel
      i
      (eq_cong
      (mul-one (2 ^ i))
      (cong_eq e (ap (λ (z : ℕ). 2 ^ z) (omega arith) ∙ pow-add 2 i (j - i)))))

  pub order_is : Order p (order p)
  unfolding order
  order_is =
      elim (first_one_is p (p - 1) 1) [
        | inl f ↦ record {
          positive = f.from;
          leaves_one = f.one;
          least = λ m a b. f.none_before m a b;
        }
        | inr none ↦ absurd
            (one_to_one_meets
            p
            (λ i. 2 ^ i % p)
            (λ i _. mod-lt (2 ^ i) (omega arith))
            (different none)
            0
            (omega arith)
            (λ i _. two_not_zero i))
      ]
    where
      different : None p 1 (1 + (p - 1)) → OneToOne p (λ i. 2 ^ i % p)
      different none i j hi hj e = omega (arith, apart i j hj e, apart j i hi (sym e))
        where
          apart : (a b : ℕ) → b < p → 2 ^ a % p ≡ 2 ^ b % p → ¬ (a < b)
          apart a b hb d u =
              none
              (b - a)
              (omega arith)
              (omega arith)
              (cong_mod_one (omega arith) (between a b u (mod-cong d)))

  -- the length of a row: half the order, or the whole of an odd one
  row_length_is
      : (order p ≡ row_length_of p + row_length_of p) ⊎ ((order p ≡ row_length_of p) × (order p % 2 ≡ 1))
  unfolding row_length_of
  row_length_is = at (eqb (order p % 2) 0) refl
    where
      at
          : (t : Bool)
          → eqb (order p % 2) 0 ≡ t
          → (order p ≡ cond t (order p / 2) (order p) + cond t (order p / 2) (order p))
          ⊎ ((order p ≡ cond t (order p / 2) (order p)) × (order p % 2 ≡ 1))
      at true e = inl (omega (arith, eqb-true (order p % 2) 0 e))
      at false e = inr (refl, omega (arith, eqb_apart (order p % 2) 0 e))

  pub row_length_positive : 0 < row_length_of p
  row_length_positive = elim row_length_is [ inl e ↦ omega (arith, e, order_is.positive) | inr e ↦ omega (arith, e.0, order_is.positive) ]

  -- the length of a row is the order of 4
  pub row_length_returns : Cong p (2 ^ (row_length_of p + row_length_of p)) 1
  row_length_returns =
      elim row_length_is [
        | inl e ↦ subst (λ (z : ℕ). Cong p (2 ^ z) 1) e (mod_one_cong big order_is.leaves_one)
        | inr e ↦ subst
            (λ (z : ℕ). Cong p (2 ^ z) 1)
            (omega (arith, e.0))
            (order_multiple p (order p) big order_is 2)
      ]

  pub row_length_first : (d : ℕ) → 0 < d → d < row_length_of p → ¬ (Cong p (2 ^ (d + d)) 1)
  row_length_first d dpos u one =
      elim row_length_is [
        | inl e ↦ order_is.least (d + d) (omega arith) (omega (arith, e)) (cong_mod_one big one)
        | inr e ↦ odd_order e.0 e.1
      ]
    where
      odd_order : order p ≡ row_length_of p → order p % 2 ≡ 1 → ⊥
      odd_order e one' =
          let divided : (d + d) % order p ≡ 0 = order_divides p (order p) big order_is (d + d) one in
          elim (dec_lt (d + d) (order p)) [
            | yes v ↦ omega (arith, divided, mod-eq_of_lt v)
            | no v ↦ omega (
              arith,
              divided,
              mod-eq-sub-mod {n = d + d} {m = order p} (omega arith),
              mod-eq_of_lt {n = d + d - order p} {m = order p} (omega arith),
            )
          ]

  -- where 2n' divides p − 1, 2^(p − 1) leaves 1
  pub rows_fit_leaves : (p - 1) % (2 * row_length_of p) ≡ 0 → 2 ^ (p - 1) % p ≡ 1
  rows_fit_leaves fit =
      cong_mod_one
      big
      (eq_cong
      (ap (λ (z : ℕ). 2 ^ z) rows ∙ pow-mul 2 (row_length_of p + row_length_of p) ((p - 1) / (2 * row_length_of p)))
      (cong_eq
      (cong-pow ((p - 1) / (2 * row_length_of p)) row_length_returns)
      (one_pow ((p - 1) / (2 * row_length_of p)))))
    where
      rows : p - 1 ≡ (row_length_of p + row_length_of p) * ((p - 1) / (2 * row_length_of p))
      rows = sym (mod-add-div (p - 1) (2 * row_length_of p)) ∙ omega (arith, fit)

  -- where 2^(p − 1) leaves 1, the order divides p − 1
  pub order_divides_whole : 2 ^ (p - 1) % p ≡ 1 → (p - 1) % order p ≡ 0
  order_divides_whole one = order_divides p (order p) big order_is (p - 1) (mod_one_cong big one)

  -- and so does 2n', since p − 1 is even
  pub leaves_rows_fit : 2 ^ (p - 1) % p ≡ 1 → (p - 1) % (2 * row_length_of p) ≡ 0
  leaves_rows_fit one =
      elim row_length_is [
        | inl e ↦ subst (λ (z : ℕ). (p - 1) % z ≡ 0) (omega (arith, e)) (order_divides_whole one)
        | inr e ↦ odd_order e.0 e.1
      ]
    where
      count : ℕ
      count = (p - 1) / order p

      all : p - 1 ≡ order p * count
      all = sym (mod-add-div (p - 1) (order p)) ∙ omega (arith, order_divides_whole one)

      odd_order : order p ≡ row_length_of p → order p % 2 ≡ 1 → (p - 1) % (2 * row_length_of p) ≡ 0
      odd_order e o =
          ap (λ (z : ℕ). z % (2 * row_length_of p)) (all ∙ twice) ∙ mul-mod_right (2 * row_length_of p) (count / 2)
        where
          half : ℕ
          half = order p / 2

          order_odd : order p ≡ suc (half + half)
          order_odd = omega (arith, o)

          even : count ≡ 2 * (count / 2)
          even = omega (arith, all, ap (λ (z : ℕ). z * count) order_odd)

          twice : order p * count ≡ 2 * row_length_of p * (count / 2)
          twice = ap₂ ◌*◌ e even ∙ omega arith

  -- the order is the least positive divisor d of p − 1 with 2^d leaving 1
  pub order_is_least_divisor
      : (d : ℕ)
      → 2 ^ (p - 1) % p ≡ 1
      → 0 < d
      → 2 ^ d % p ≡ 1
      → ((e : ℕ) → 0 < e → e < d → (p - 1) % e ≡ 0 → 2 ^ e % p ≢ 1)
      → d ≡ order p
  order_is_least_divisor d one dpos leaves least =
      omega (arith, not_below, not_above)
    where
      not_below : ¬ (d < order p)
      not_below u = order_is.least d dpos u leaves

      not_above : ¬ (order p < d)
      not_above u = least (order p) order_is.positive u (order_divides_whole one) order_is.leaves_one
