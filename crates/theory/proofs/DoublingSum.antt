-- The doubling sum gives Bernoulli numbers.
-- Main statements: doubling_half_system (the points of the rows are a half system), doubling_gives.
use mathlib.Core.Path.{◌≡◌, ap, ap₂, sym, ◌∙◌, subst}
use mathlib.Core.Logic.{◌≢◌}
use Prim.Native.Nat.{ℕ, zero, suc, ◌+◌, ◌-◌, ◌*◌, ◌/◌, ◌%◌, ◌^◌, ◌≤◌, ◌<◌}
use native.Mathlib.Nat.{mod-lt, pos_of_ne-zero, pow-suc, mul-one, mul-zero, mul_comm, mul-mul-mul_comm, zero-add, mod-add-div, eq_of_mul-eq-mul_right, div-lt_iff_lt-mul}
use native.Mathlib.Omega.{arith}
use lib.Pow.{pow-add}
use Rattle.theory.specs.Residues.{minus, inverse, signed}
use Rattle.theory.specs.Sums.{sum}
use Rattle.theory.specs.Pairs.{Sound}
use Rattle.theory.specs.Bernoulli.{Recurrence}
use Rattle.theory.specs.Direct.{terms_of}
use Rattle.theory.specs.Doubling.{row_length_of, doubling_point, doubling_weight, doubling_term, doubling_sum, doubling_result}
use Rattle.theory.proofs.Sums.{sum-mul}
use Rattle.theory.proofs.Powers.{one_pow, mul-pow, pow-mul}
use Rattle.theory.proofs.Congruence.{Cong, cong_refl, cong_sym, cong_trans, cong_of_eq, eq_cong, cong_eq, cong-add, cong_cancel, cong-mul, cong_mul_left, cong-pow, cong_rem, mod_zero_cong, cong_mod_one, cong_divide, unit_mul, unit_not_zero}
use Rattle.theory.proofs.Modular.{minus-cong, doubling_point_under}
use Rattle.theory.proofs.Generators.{generator_exponents, generator_unit, inverse_is, quotient_is}
use Rattle.theory.proofs.OrderOfTwo.{half_of_one, two_cancel, two_not_zero, between, row_length_positive, row_length_returns, row_length_first}
use Rattle.theory.proofs.HalfSystems.{HalfSystem}
use Rattle.theory.proofs.Multipliers.{half_system_sum}

-- a sign as a multiple: the weight under its sign, and twice the weight where that is −, are the weight
signed_twice : (p q w : ℕ) → 0 < p → q < 2 → Cong p (signed p q w + 2 * (q * w)) w
signed_twice p zero w pos u = cong_eq (cong-add (cong_rem p w) (cong_refl (2 * (0 * w)))) (omega arith)
signed_twice p (suc zero) w pos u =
    eq_cong (omega arith) (cong_eq (cong-add (minus-cong p 0 w pos) (cong_refl w)) (zero-add w))
signed_twice p (suc (suc q)) w pos u = absurd (omega arith)

signed_term
    : (p q w c v : ℕ) → 0 < p → q < 2 → Cong p (c * w) v → Cong p (c * signed p q w + 2 * (q * v)) (1 * v)
signed_term p q w c v pos u e =
    cong_trans
    (cong-add (cong_refl (c * signed p q w)) (cong_mul_left 2 (cong_mul_left q (cong_sym e))))
    (eq_cong (omega arith) (cong_trans (cong_mul_left c (signed_twice p q w pos u)) (cong_eq e (omega arith))))

module _ (p g : ℕ) (big : 1 < p) (sound : Sound p g) (h : ℕ) (odd : p ≡ suc (h + h)) where
  some : 0 < h
  some = omega arith

  -- g^(2i)·4^j determines the row i and the place j
  same_row
      : (i i' j j' : ℕ)
      → (i + i) * row_length_of p < p - 1
      → (i' + i') * row_length_of p < p - 1
      → Cong p (g ^ (i + i) * 2 ^ (j + j)) (g ^ (i' + i') * 2 ^ (j' + j'))
      → i ≡ i'
  same_row i i' j j' u u' e =
      omega (
        arith,
        eq_of_mul-eq-mul_right
            (row_length_of p)
            (row_length_positive p h odd some)
            (i + i)
            (i' + i')
            (generator_exponents
            p
            g
            big
            sound
            ((i + i) * row_length_of p)
            ((i' + i') * row_length_of p)
            u
            u'
            (cong_trans (cong_sym (raised i j)) (cong_trans (cong-pow (row_length_of p) e) (raised i' j')))),
      )
    where
      raised : (a c : ℕ) → Cong p ((g ^ (a + a) * 2 ^ (c + c)) ^ row_length_of p) (g ^ ((a + a) * row_length_of p))
      raised a c =
          eq_cong
          (mul-pow (g ^ (a + a)) (2 ^ (c + c)) (row_length_of p)
          ∙ ap₂
          ◌*◌
          (sym (pow-mul g (a + a) (row_length_of p)))
          (sym (pow-mul 2 (c + c) (row_length_of p))
          ∙ ap (λ (z : ℕ). 2 ^ z) {y = (row_length_of p + row_length_of p) * c} (omega arith)
          ∙ pow-mul 2 (row_length_of p + row_length_of p) c))
          (cong_eq
          (cong_mul_left
          (g ^ ((a + a) * row_length_of p))
          (cong_eq (cong-pow c (row_length_returns p h odd some)) (one_pow c)))
          (mul-one (g ^ ((a + a) * row_length_of p))))

  not_further : (j j' : ℕ) → j' < row_length_of p → Cong p (2 ^ (j + j)) (2 ^ (j' + j')) → ¬ (j < j')
  not_further j j' u e below =
      row_length_first
      p
      h
      odd
      some
      (j' - j)
      (omega arith)
      (omega arith)
      (subst
      (λ (z : ℕ). Cong p (2 ^ z) 1)
      (omega arith)
      (between p h odd some (j + j) (j' + j') (omega arith) e))

  same_place : (j j' : ℕ) → j < row_length_of p → j' < row_length_of p → Cong p (2 ^ (j + j)) (2 ^ (j' + j')) → j ≡ j'
  same_place j j' u u' e = omega (arith, not_further j j' u' e, not_further j' j u (cong_sym e))

  same_place_of_row
      : (i i' j j' : ℕ)
      → i ≡ i'
      → j < row_length_of p
      → j' < row_length_of p
      → Cong p (g ^ (i + i) * 2 ^ (j + j)) (g ^ (i' + i') * 2 ^ (j' + j'))
      → j ≡ j'
  same_place_of_row i i' j j' same u u' e =
      same_place
      j
      j'
      u
      u'
      (cong_divide
      ((g ^ (p - 2)) ^ (i + i))
      (g ^ (i + i))
      (generator_unit p g big sound (i + i))
      (cong_eq e (ap (λ (z : ℕ). g ^ (z + z) * 2 ^ (j' + j')) (sym same))))

  point_positive : (i j : ℕ) → 0 < doubling_point p g i j
  unfolding doubling_point
  point_positive i j =
      pos_of_ne-zero
      (unit_not_zero
      ((g ^ (p - 2)) ^ i * suc h ^ j)
      (g ^ i * 2 ^ j)
      big
      (unit_mul
      ((g ^ (p - 2)) ^ i)
      (g ^ i)
      (suc h ^ j)
      (2 ^ j)
      (generator_unit p g big sound i)
      (half_of_one p h odd some j)))

  point_square : (i j : ℕ) → Cong p (doubling_point p g i j * doubling_point p g i j) (g ^ (i + i) * 2 ^ (j + j))
  unfolding doubling_point
  point_square i j =
      cong_trans
      (cong-mul (cong_rem p (g ^ i * 2 ^ j)) (cong_rem p (g ^ i * 2 ^ j)))
      (cong_of_eq
      (mul-mul-mul_comm (g ^ i) (2 ^ j) (g ^ i) (2 ^ j) ∙ sym (ap₂ ◌*◌ (pow-add g i i) (pow-add 2 j j))))

  -- the point of term s
  abbrev point : ℕ → ℕ
  point s = doubling_point p g (s / row_length_of p) (s % row_length_of p)

  same_term : (s s' : ℕ) → s < h → s' < h → Cong p (point s * point s) (point s' * point s') → s ≡ s'
  same_term s s' u u' e =
      sym (mod-add-div s (row_length_of p))
      ∙ ap₂ (λ (j i : ℕ). j + row_length_of p * i) places rows
      ∙ mod-add-div s' (row_length_of p)
    where
      squares
          : Cong
          p
          (g ^ (s / row_length_of p + s / row_length_of p) * 2 ^ (s % row_length_of p + s % row_length_of p))
          (g ^ (s' / row_length_of p + s' / row_length_of p) * 2 ^ (s' % row_length_of p + s' % row_length_of p))
      squares =
          cong_trans
          (cong_sym (point_square (s / row_length_of p) (s % row_length_of p)))
          (cong_trans e (point_square (s' / row_length_of p) (s' % row_length_of p)))

      rows : s / row_length_of p ≡ s' / row_length_of p
      rows =
          same_row
          (s / row_length_of p)
          (s' / row_length_of p)
          (s % row_length_of p)
          (s' % row_length_of p)
          (omega (arith, mod-add-div s (row_length_of p)))
          (omega (arith, mod-add-div s' (row_length_of p)))
          squares

      places : s % row_length_of p ≡ s' % row_length_of p
      places =
          same_place_of_row
          (s / row_length_of p)
          (s' / row_length_of p)
          (s % row_length_of p)
          (s' % row_length_of p)
          rows
          (mod-lt s (row_length_positive p h odd some))
          (mod-lt s' (row_length_positive p h odd some))
          squares

  pub doubling_half_system : HalfSystem p h (λ s. doubling_point p g (s / row_length_of p) (s % row_length_of p))
  doubling_half_system =
      record {
        positive = λ s _. point_positive (s / row_length_of p) (s % row_length_of p);
        under = λ s _. doubling_point_under p g (s / row_length_of p) (s % row_length_of p) (omega arith);
        apart = same_term;
      }

  module _ (k t : ℕ) (even : k ≡ suc (suc (t + t))) (top : k ≤ p - 3) where
    -- the weight of a point: a power of it
    doubling_weight_is : (i j : ℕ) → Cong p (doubling_weight p g k i j) (doubling_point p g i j ^ suc (t + t))
    unfolding doubling_weight doubling_point
    doubling_weight_is i j =
        cong_trans
        (cong_rem p ((g ^ (k - 1)) ^ i * (2 ^ (k - 1)) ^ j))
        (eq_cong
        (ap₂ ◌*◌ (around g i) (around 2 j)
        ∙ sym (mul-pow (g ^ i) (2 ^ j) (k - 1))
        ∙ ap (λ (z : ℕ). (g ^ i * 2 ^ j) ^ z) (omega (arith, even)))
        (cong-pow (suc (t + t)) (cong_sym (cong_rem p (g ^ i * 2 ^ j)))))
      where
        around : (a n : ℕ) → (a ^ (k - 1)) ^ n ≡ (a ^ n) ^ (k - 1)
        around a n =
            sym (pow-mul a (k - 1) n) ∙ ap (λ (z : ℕ). a ^ z) (mul_comm (k - 1) n) ∙ pow-mul a n (k - 1)

    doubling_terms
        : (i j : ℕ)
        → Cong
        p
        (2 ^ suc (t + t) * doubling_term p g k i j
        + 2
        * (2 * doubling_point p g i j / p * (2 * doubling_point p g i j % p) ^ suc (t + t)))
        ((2 - 1) * (2 * doubling_point p g i j % p) ^ suc (t + t))
    unfolding doubling_term
    doubling_terms i j =
        signed_term
        p
        (2 * x / p)
        (doubling_weight p g k i j)
        (2 ^ suc (t + t))
        ((2 * x % p) ^ suc (t + t))
        (omega arith)
        ((div-lt_iff_lt-mul (omega arith)).1 (omega (arith, doubling_point_under p g i j (omega arith))))
        (cong_trans
        (cong_mul_left (2 ^ suc (t + t)) (doubling_weight_is i j))
        (eq_cong (sym (mul-pow 2 x (suc (t + t)))) (cong-pow (suc (t + t)) (cong_sym (cong_rem p (2 * x))))))
      where
        x : ℕ
        x = doubling_point p g i j

    -- 2^k·b_k + k·2^(k − 1)·S is b_k
    doubling_sum_gives
        : (b : ℕ → ℕ)
        → Recurrence p b
        → Cong p (2 ^ k * b k + k * (2 ^ suc (t + t) * doubling_sum p g k (terms_of p))) (b k)
    unfolding doubling_sum
    doubling_sum_gives b r =
        cong_trans
        (cong-add (cong_refl (2 ^ k * b k)) (cong_mul_left k scaled))
        (subst
        (λ (z : ℕ). Cong p (2 ^ z * b z + z * sum h (λ s. 2 ^ suc (t + t) * term s)) (b z))
        (sym even)
        (half_system_sum
        p
        g
        big
        sound
        2
        (omega arith)
        (omega (arith, even))
        b
        r
        h
        odd
        point
        doubling_half_system
        t
        (λ s. 2 ^ suc (t + t) * term s)
        (omega arith)
        (λ s _. doubling_terms (s / row_length_of p) (s % row_length_of p))))
      where
        term : ℕ → ℕ
        term s = doubling_term p g k (s / row_length_of p) (s % row_length_of p)

        count : terms_of p ≡ h
        count = omega arith

        scaled : Cong p (2 ^ suc (t + t) * (sum (terms_of p) term % p)) (sum h (λ s. 2 ^ suc (t + t) * term s))
        scaled =
            cong_trans
            (cong_mul_left (2 ^ suc (t + t)) (cong_rem p (sum (terms_of p) term)))
            (cong_of_eq
            (ap (λ (z : ℕ). 2 ^ suc (t + t) * sum z term) count ∙ sym (sum-mul h (2 ^ suc (t + t)) term)))

    -- the divisor D = 2(2^(−k) − 1): 2^(k − 1)·D + 2^k is 1
    abbrev difference : ℕ
    difference = minus p (inverse p (2 ^ k)) 1

    divisor_is : Cong p (2 ^ suc (t + t) * (2 * difference) + 2 ^ k) 1
    divisor_is =
        eq_cong
        (omega (arith, power, ap (λ (z : ℕ). z * difference) power))
        (cong_trans
        (cong_mul_left (2 ^ k) (minus-cong p (inverse p (2 ^ k)) 1 (omega arith)))
        (inverse_is p g big sound (2 ^ k) (two_not_zero p h odd some k)))
      where
        power : 2 ^ k ≡ 2 ^ suc (t + t) * 2
        power = ap (λ (z : ℕ). 2 ^ z) even ∙ pow-suc 2 (suc (t + t))

    doubling_divisor : 2 ^ k % p ≢ 1 → 2 * difference % p ≢ 0
    doubling_divisor ne e =
        ne
        (cong_mod_one
        big
        (eq_cong
        (sym (zero-add (2 ^ k)))
        (cong_trans
        (cong-add
        (cong_sym
        (cong_eq
        (cong_mul_left (2 ^ suc (t + t)) (mod_zero_cong e))
        (mul-zero (2 ^ suc (t + t)))))
        (cong_refl (2 ^ k)))
        divisor_is)))

    pub doubling_gives : (b : ℕ → ℕ) → Recurrence p b → 2 ^ k % p ≢ 1 → b k ≡ doubling_result p g k
    unfolding doubling_result
    doubling_gives b r ne =
        sym
        (quotient_is
        p
        g
        big
        sound
        (2 * difference)
        (k * doubling_sum p g k (terms_of p))
        (b k)
        (doubling_divisor ne)
        (r.under k (omega (arith, even)) top)
        (two_cancel p h odd some (suc (t + t)) (cong_cancel (2 ^ k * b k) rest)))
      where
        rest
            : Cong
            p
            (2 ^ k * b k + 2 ^ suc (t + t) * (2 * difference * b k))
            (2 ^ k * b k + 2 ^ suc (t + t) * (k * doubling_sum p g k (terms_of p)))
        rest =
            cong_trans
            (eq_cong (omega arith) (cong_mul_left (b k) divisor_is))
            (eq_cong (mul-one (b k)) (cong_eq (cong_sym (doubling_sum_gives b r)) (omega arith)))
