-- Sums of powers, and the Bernoulli numbers modulo p in them.
-- Main statements: powers_recurrence (the recurrence of the sums of powers), solution (the recurrence modulo p has a
-- solution), one_solution (and one only), power_sums (p·b_n and the sum of the n-th powers agree modulo p²).
use mathlib.Core.Path.{◌≡◌, refl, ap, sym, ◌∙◌}
use Prim.Native.Nat.{ℕ, zero, suc, ◌+◌, ◌-◌, ◌*◌, ◌/◌, ◌%◌, ◌^◌, ◌≤◌, ◌<◌}
use native.Mathlib.Nat.{mod-lt, mod-eq_of_lt, pow-zero, pow-suc, mod-add-div, mul-one, mul-zero, mul_comm, div_self}
use native.Mathlib.Numerals.{add-one}
use native.Mathlib.Omega.{arith}
use Rattle.theory.specs.Sums.{sum}
use Rattle.theory.specs.Pairs.{Sound}
use Rattle.theory.specs.Bernoulli.{choose, Recurrence}
use Rattle.theory.proofs.Sums.{sum_zero, sum_suc, sum_ext, sum-add, sum-mul, sum_const, sum_nought}
use Rattle.theory.proofs.Powers.{zero_pow}
use Rattle.theory.proofs.Congruence.{Cong, cong_sym, cong_trans, cong_of_eq, eq_cong, cong_eq, cong-add, cong_subtract, cong_mul_left, cong_rem, mod_zero_cong, cong_mod_zero, cong_under, cong_scale, cong_unscale, cong_zero, sum-cong}
use Rattle.theory.proofs.Binomials.{choose_self, choose_below, binomial}
use Rattle.theory.proofs.Generators.{sound_cancel}

-- 0^n + 1^n + … + (m − 1)^n, where 0^0 is 1
pub powers_below : ℕ → ℕ → ℕ
powers_below m n = sum m (λ x. x ^ n)

pub powers_below_is : (m n : ℕ) → powers_below m n ≡ sum m (λ x. x ^ n)
unfolding powers_below
powers_below_is m n = refl

-- the sum of the (x + 1)^(n + 1) − x^(n + 1), over the powers of x
pub powers_recurrence : (m n : ℕ) → sum (suc n) (λ j. choose (suc n) j * powers_below m j) ≡ m ^ suc n
unfolding powers_below
powers_recurrence zero n =
    sum_nought
    (suc n)
    (λ j. choose (suc n) j * sum 0 (λ x. x ^ j))
    (λ j _. ap (λ (z : ℕ). choose (suc n) j * z) (sum_zero (λ x. x ^ j)) ∙ mul-zero (choose (suc n) j))
    ∙ sym (zero_pow n)
powers_recurrence (suc m) n =
    sum_ext
    (suc n)
    (λ j. choose (suc n) j * sum (suc m) (λ x. x ^ j))
    (λ j. choose (suc n) j * sum m (λ x. x ^ j) + choose (suc n) j * m ^ j)
    (λ j _. omega (arith, ap (λ (z : ℕ). choose (suc n) j * z) (sum_suc m (λ x. x ^ j))))
    ∙ sum-add (suc n) (λ j. choose (suc n) j * sum m (λ x. x ^ j)) (λ j. choose (suc n) j * m ^ j)
    ∙ ap (λ (z : ℕ). z + sum (suc n) (λ j. choose (suc n) j * m ^ j)) (powers_recurrence m n)
    ∙ omega (
      arith,
      binomial (suc n) m,
      sum_suc (suc n) (λ j. choose (suc n) j * m ^ j),
      ap (λ (z : ℕ). z * m ^ suc n) (choose_self (suc n)),
    )

-- the left side of the recurrence
pub left : (ℕ → ℕ) → ℕ → ℕ
left b n = (n + 1) * b n + sum n (λ j. choose (n + 1) j * b j)

left_is : (b : ℕ → ℕ) (n : ℕ) → left b n ≡ sum (suc n) (λ j. choose (suc n) j * b j)
unfolding left
left_is b n =
    ap (λ (z : ℕ). z * b n + sum n (λ j. choose z j * b j)) (add-one n)
    ∙ omega (arith, sum_suc n (λ j. choose (suc n) j * b j), ap (λ (z : ℕ). z * b n) (choose_below n))

left_mul : (c : ℕ) (b : ℕ → ℕ) (n : ℕ) → left (λ j. c * b j) n ≡ c * left b n
unfolding left
left_mul c b n =
    ap
    (λ (z : ℕ). (n + 1) * (c * b n) + z)
    (sum_ext n (λ j. choose (n + 1) j * (c * b j)) (λ j. c * (choose (n + 1) j * b j)) (λ j _. omega arith)
    ∙ sum-mul n c (λ j. choose (n + 1) j * b j))
    ∙ omega arith

-- what stands below n, under congruent sequences
below_cong
    : {m : ℕ} (b c : ℕ → ℕ) (n : ℕ)
    → ((j : ℕ) → j < n → Cong m (b j) (c j))
    → Cong m (sum n (λ j. choose (n + 1) j * b j)) (sum n (λ j. choose (n + 1) j * c j))
below_cong b c n e =
    sum-cong
    n
    (λ j. choose (n + 1) j * b j)
    (λ j. choose (n + 1) j * c j)
    (λ j h. cong_mul_left (choose (n + 1) j) (e j h))

left_cong
    : {m : ℕ} (b c : ℕ → ℕ) (n : ℕ) → ((j : ℕ) → j ≤ n → Cong m (b j) (c j)) → Cong m (left b n) (left c n)
unfolding left
left_cong b c n e = cong-add (cong_mul_left (n + 1) (e n (omega arith))) (below_cong b c n (λ j h. e j (omega arith)))

-- the sums of powers in it
left_powers : (m n : ℕ) → left (powers_below m) n ≡ m ^ suc n
left_powers m n = left_is (powers_below m) n ∙ powers_recurrence m n

-- the sum of m ones
powers_none : (m : ℕ) → powers_below m 0 ≡ m * 1
unfolding powers_below
powers_none m = sum_ext m (λ x. x ^ 0) (λ _. 1) (λ x _. pow-zero x) ∙ sum_const m 1

-- p divides its powers from the first
power_zero : {p : ℕ} (n : ℕ) → 1 ≤ n → Cong p (p ^ n) 0
power_zero zero h = absurd (omega arith)
power_zero {p} (suc n) h = eq_cong (pow-suc p n ∙ mul_comm (p ^ n) p) (cong_zero (p ^ n))

module _ (p g : ℕ) (big : 1 < p) (sound : Sound p g) where
  -- two sequences with one first number whose left sides agree from 1 to n agree at n
  same_left
      : (b c : ℕ → ℕ)
      → Cong p (b 0) (c 0)
      → ((n : ℕ) → 1 ≤ n → n ≤ p - 3 → Cong p (left b n) (left c n))
      → (bound n : ℕ)
      → n < bound
      → n ≤ p - 3
      → Cong p (b n) (c n)
  unfolding left
  same_left b c first step zero n h u = absurd (omega arith)
  same_left b c first step (suc bound) zero h u = first
  same_left b c first step (suc bound) (suc n) h u =
      sound_cancel
      p
      g
      big
      sound
      (suc n + 1)
      (λ e. omega (arith, e, mod-eq_of_lt {n = suc n + 1} {m = p} (omega arith)))
      (cong_subtract
      (eq_cong (omega arith) (cong_eq (step (suc n) (omega arith) u) (omega arith)))
      (below_cong b c (suc n) (λ j v. same_left b c first step bound j (omega arith) (omega arith))))

  -- p divides the sums of powers
  powers_divisible : (n : ℕ) → n ≤ p - 3 → Cong p (powers_below p n) 0
  powers_divisible n u = same_left (powers_below p) (λ _. 0) first step (suc n) n (omega arith) u
    where
      first : Cong p (powers_below p 0) 0
      first = eq_cong (powers_none p) (cong_zero 1)

      nought : (m : ℕ) → left (λ _. 0) m ≡ 0
      nought m = left_mul 0 (λ _. 0) m ∙ omega arith

      step : (m : ℕ) → 1 ≤ m → m ≤ p - 3 → Cong p (left (powers_below p) m) (left (λ _. 0) m)
      step m h v =
          eq_cong
          (left_powers p m)
          (cong_eq (power_zero (suc m) (omega arith)) (sym (nought m)))

  -- the p-th part of the sum of the n-th powers
  part : ℕ → ℕ
  part n = powers_below p n / p

  part_is : (n : ℕ) → n ≤ p - 3 → powers_below p n ≡ p * part n
  unfolding part
  part_is n u =
      sym (mod-add-div (powers_below p n) p)
      ∙ ap (λ (z : ℕ). z + p * (powers_below p n / p)) (cong_mod_zero (powers_divisible n u))
      ∙ omega arith

  part_first : part 0 ≡ 1
  unfolding part
  part_first = ap (λ (z : ℕ). z / p) (powers_none p ∙ mul-one p) ∙ div_self (omega arith)

  -- obeys the recurrence
  part_left : (n : ℕ) → 1 ≤ n → n ≤ p - 3 → Cong p (left part n) 0
  part_left n h u =
      cong_trans
      (cong_unscale
      p
      (omega arith)
      (cong_trans
      (cong_of_eq (sym (left_mul p part n)))
      (cong_trans
      (left_cong (λ j. p * part j) (powers_below p) n (λ j v. cong_of_eq (sym (part_is j (omega arith)))))
      (cong_of_eq (left_powers p n ∙ pow-suc p n ∙ mul_comm (p ^ n) p)))))
      (power_zero n h)

  pub solution : (b : ℕ → ℕ) × Recurrence p b
  unfolding left
  solution = (
    (λ n. part n % p),
    record {
      first = ap (λ (z : ℕ). z % p) part_first ∙ mod-eq_of_lt big;
      under = λ n _ _. mod-lt (part n) (omega arith);
      divided = λ n h u.
          cong_mod_zero
          (cong_trans
          (left_cong (λ j. part j % p) part n (λ j _. cong_rem p (part j)))
          (part_left n h u));
    },
  )

  -- a solution agrees with the parts
  solution_part : (b : ℕ → ℕ) → Recurrence p b → (n : ℕ) → n ≤ p - 3 → Cong p (b n) (part n)
  unfolding left
  solution_part b r n u = same_left b part (cong_of_eq (r.first ∙ sym part_first)) step (suc n) n (omega arith) u
    where
      step : (m : ℕ) → 1 ≤ m → m ≤ p - 3 → Cong p (left b m) (left part m)
      step m h v = cong_trans (mod_zero_cong (r.divided m h v)) (cong_sym (part_left m h v))

  pub one_solution : (b c : ℕ → ℕ) → Recurrence p b → Recurrence p c → (n : ℕ) → n ≤ p - 3 → b n ≡ c n
  one_solution b c r s zero u = r.first ∙ sym s.first
  one_solution b c r s (suc n) u =
      cong_under
      (r.under (suc n) (omega arith) u)
      (s.under (suc n) (omega arith) u)
      (cong_trans (solution_part b r (suc n) u) (cong_sym (solution_part c s (suc n) u)))

  -- p·b_n and the sum of the n-th powers leave the same remainder by p²
  pub power_sums : (b : ℕ → ℕ) → Recurrence p b → (n : ℕ) → n ≤ p - 3 → Cong (p * p) (p * b n) (powers_below p n)
  power_sums b r n u = cong_eq (cong_scale p (solution_part b r n u)) (sym (part_is n u))
