-- The direct sum gives Bernoulli numbers.
-- Main statements: direct_half_system (the powers of g below the middle are a half system), direct_gives.
use mathlib.Core.Path.{◌≡◌, ap, sym, ◌∙◌, subst}
use mathlib.Core.Logic.{◌≢◌}
use Prim.Native.Nat.{ℕ, suc, ◌+◌, ◌-◌, ◌*◌, ◌/◌, ◌%◌, ◌^◌, ◌≤◌, ◌<◌}
use native.Mathlib.Nat.{mod-lt, mod-mod, pos_of_ne-zero, pow-zero, zero-add}
use native.Mathlib.Omega.{arith}
use lib.Pow.{pow-add}
use Rattle.theory.specs.Residues.{minus}
use Rattle.theory.specs.Sums.{sum}
use Rattle.theory.specs.Pairs.{Sound}
use Rattle.theory.specs.Bernoulli.{Recurrence}
use Rattle.theory.specs.Direct.{terms_of, half_below, direct_quotient, direct_weight, direct_term, direct_sum, direct_result}
use Rattle.theory.proofs.Sums.{sum-mul}
use Rattle.theory.proofs.Congruence.{Cong, cong_refl, cong_sym, cong_trans, cong_of_eq, eq_cong, cong_eq, cong-add, cong_cancel, cong-mul, cong_mul_left, cong-pow, cong_rem, mod-cong, mod_zero_cong, cong_multiple, unit_not_zero}
use Rattle.theory.proofs.Modular.{pow-mul, pow_step, minus-cong}
use Rattle.theory.proofs.Generators.{generator_exponents, generator_unit, quotient_is}
use Rattle.theory.proofs.HalfSystems.{HalfSystem}
use Rattle.theory.proofs.Multipliers.{half_system_sum}

-- u is the half of g − 1
half_below_twice : (p h g : ℕ) → p ≡ suc (h + h) → Cong p (2 * half_below p g) (g - 1)
half_below_twice p h g odd = eq_cong whole (cong_multiple (g - 1) (g - 1))
  where
    middle : (p + 1) / 2 ≡ suc h
    middle = omega arith

    whole : 2 * half_below p g ≡ g - 1 + p * (g - 1)
    whole = ap (λ (z : ℕ). 2 * ((g - 1) * z)) middle ∙ omega (arith, ap (λ (z : ℕ). z * (g - 1)) odd)

-- twice (u − q)·w, and 2·q·w, are 2·u·w
twice_difference : (p u q w v d : ℕ) → 0 < p → Cong p (2 * u) d → Cong p w v → Cong p (2 * (minus p u q * w % p) + 2 * (q * v)) (d * v)
twice_difference p u q w v d pos twice same =
    cong_trans
    (cong-add (cong_mul_left 2 (cong_trans (cong_rem p (minus p u q * w)) (cong_mul_left (minus p u q) same))) (cong_refl (2 * (q * v))))
    (eq_cong
    (omega arith)
    (cong_trans (cong_mul_left (2 * v) (minus-cong p u q pos)) (eq_cong (omega arith) (cong_eq (cong_mul_left v twice) (omega arith)))))

module _ (p g : ℕ) (big : 1 < p) (sound : Sound p g) (h : ℕ) (odd : p ≡ suc (h + h)) where
  pub direct_half_system : HalfSystem p h (λ i. g ^ i % p)
  direct_half_system =
      record {
        positive = λ i _. pos_of_ne-zero (unit_not_zero ((g ^ (p - 2)) ^ i) (g ^ i) big (generator_unit p g big sound i));
        under = λ i _. mod-lt (g ^ i) (omega arith);
        apart = λ i j u v e.
            omega (
              arith,
              generator_exponents
                  p
                  g
                  big
                  sound
                  (i + i)
                  (j + j)
                  (omega arith)
                  (omega arith)
                  (cong_trans (cong_sym (square i)) (cong_trans e (square j))),
            );
      }
    where
      square : (i : ℕ) → Cong p (g ^ i % p * (g ^ i % p)) (g ^ (i + i))
      square i = cong_eq (cong-mul (cong_rem p (g ^ i)) (cong_rem p (g ^ i))) (sym (pow-add g i i))

  -- the weight of term i + 1 is a power of the residue of g times its point
  direct_weight_is : (k j i : ℕ) → k - 1 ≡ j → Cong p (direct_weight p g k (i + 1)) ((g * (g ^ i % p) % p) ^ j)
  unfolding direct_weight
  direct_weight_is k j i e =
      cong_trans
      (cong_rem p (g ^ ((i + 1) * (k - 1))))
      (eq_cong
      (pow-mul g (i + 1) (k - 1) ∙ ap (λ (z : ℕ). (g ^ (i + 1)) ^ z) e)
      (cong-pow j (cong_sym (mod-cong (mod-mod (g * (g ^ i % p)) p ∙ sym (pow_step g i p))))))

  module _ (low : 2 ≤ g) (under : g < p) (k t : ℕ) (even : k ≡ suc (suc (t + t))) (top : k ≤ p - 3) where
    direct_terms
        : (i : ℕ)
        → Cong
        p
        (2 * direct_term p g k (i + 1) + 2 * (g * (g ^ i % p) / p * (g * (g ^ i % p) % p) ^ suc (t + t)))
        ((g - 1) * (g * (g ^ i % p) % p) ^ suc (t + t))
    unfolding direct_term direct_quotient
    direct_terms i =
        subst
        (λ (z : ℕ).
        Cong
        p
        (2 * (minus p (half_below p g) (g * (g ^ z % p) / p) * direct_weight p g k (i + 1) % p)
        + 2 * (g * (g ^ i % p) / p * (g * (g ^ i % p) % p) ^ suc (t + t)))
        ((g - 1) * (g * (g ^ i % p) % p) ^ suc (t + t)))
        before
        (twice_difference
        p
        (half_below p g)
        (g * (g ^ i % p) / p)
        (direct_weight p g k (i + 1))
        ((g * (g ^ i % p) % p) ^ suc (t + t))
        (g - 1)
        (omega arith)
        (half_below_twice p h g odd)
        (direct_weight_is k (suc (t + t)) i (omega arith)))
      where
        before : i ≡ i + 1 - 1
        before = omega arith

    -- g^k·b_k + 2·k·S is b_k
    direct_sum_gives
        : (b : ℕ → ℕ) → Recurrence p b → Cong p (g ^ k * b k + k * (2 * direct_sum p g k (terms_of p))) (b k)
    unfolding direct_sum
    direct_sum_gives b r =
        cong_trans
        (cong-add (cong_refl (g ^ k * b k)) (cong_mul_left k doubled))
        (subst
        (λ (z : ℕ). Cong p (g ^ z * b z + z * sum h (λ i. 2 * direct_term p g k (i + 1))) (b z))
        (sym even)
        (half_system_sum
        p
        g
        big
        sound
        g
        (omega arith)
        under
        b
        r
        h
        odd
        (λ i. g ^ i % p)
        direct_half_system
        t
        (λ i. 2 * direct_term p g k (i + 1))
        (omega arith)
        (λ i _. direct_terms i)))
      where
        count : terms_of p ≡ h
        count = omega arith

        doubled : Cong p (2 * (sum (terms_of p) (λ j. direct_term p g k (j + 1)) % p)) (sum h (λ i. 2 * direct_term p g k (i + 1)))
        doubled =
            cong_trans
            (cong_mul_left 2 (cong_rem p (sum (terms_of p) (λ j. direct_term p g k (j + 1)))))
            (cong_of_eq
            (ap (λ (z : ℕ). 2 * sum z (λ j. direct_term p g k (j + 1))) count
            ∙ sym (sum-mul h 2 (λ i. direct_term p g k (i + 1)))))

    -- 1 − g^k is not 0
    direct_divisor : minus p 1 (g ^ k) % p ≢ 0
    direct_divisor e =
        omega (
          arith,
          even,
          generator_exponents p g big sound k 0 (omega arith) (omega arith) (cong_eq leaves (sym (pow-zero g))),
        )
      where
        leaves : Cong p (g ^ k) 1
        leaves =
            eq_cong
            (sym (zero-add (g ^ k)))
            (cong_trans
            (cong_sym (cong-add (mod_zero_cong e) (cong_refl (g ^ k))))
            (minus-cong p 1 (g ^ k) (omega arith)))

    pub direct_gives : (b : ℕ → ℕ) → Recurrence p b → b k ≡ direct_result p g k
    unfolding direct_result
    direct_gives b r =
        sym
        (quotient_is
        p
        g
        big
        sound
        (minus p 1 (g ^ k))
        (2 * k * direct_sum p g k (terms_of p))
        (b k)
        direct_divisor
        (r.under k (omega arith) top)
        (cong_sym (cong_cancel (g ^ k * b k) rest)))
      where
        rest
            : Cong
            p
            (g ^ k * b k + 2 * k * direct_sum p g k (terms_of p))
            (g ^ k * b k + minus p 1 (g ^ k) * b k)
        rest =
            eq_cong
            (omega arith)
            (cong_trans
            (direct_sum_gives b r)
            (cong_sym
            (eq_cong
            (omega arith)
            (cong_eq (cong_mul_left (b k) (minus-cong p 1 (g ^ k) (omega arith))) (omega arith)))))
