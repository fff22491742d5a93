-- A multiplier c over a half system of points: the theorem that makes both sums Bernoulli numbers.
-- Main statements: multiplied (c^k·b_k is b_k + k·Q, with Q the sum of the quotients times powers of the residues),
-- half_system_sum (c^k·b_k + k·E is b_k, with E a sum over the points of a half system).
use mathlib.Core.Path.{◌≡◌, refl, ap, ap₂, sym, ◌∙◌}
use mathlib.Core.Logic.{◌≢◌}
use Prim.Native.Nat.{ℕ, suc, ◌+◌, ◌-◌, ◌*◌, ◌/◌, ◌%◌, ◌^◌, ◌≤◌, ◌<◌}
use native.Mathlib.Nat.{mod-lt, mod-eq_of_lt, pow-suc, mod-add-div, zero-div, mul-zero, zero-mul, div-lt_iff_lt-mul, mul-lt-mul_of_pos_left, pos_of_ne-zero}
use native.Mathlib.Omega.{arith}
use lib.Pow.{pow-add}
use lib.Arith.{digits_div, digits_mod}
use Rattle.theory.specs.Sums.{sum}
use Rattle.theory.specs.Pairs.{Sound}
use Rattle.theory.specs.Bernoulli.{Recurrence}
use Rattle.theory.proofs.Sums.{sum_ext, sum-add, sum-mul, sum_nought}
use Rattle.theory.proofs.Powers.{mul-pow}
use Rattle.theory.proofs.Congruence.{Cong, cong_refl, cong_sym, cong_trans, cong_of_eq, eq_cong, cong_eq, cong-add, cong_cancel, cong-mul, cong_mul_left, cong-pow, mod-cong, mod_zero_cong, cong_under, cong_unscale, cong_zero, sum-cong}
use Rattle.theory.proofs.Binomials.{two_terms}
use Rattle.theory.proofs.Counting.{Within, OneToOne, one_to_one_sum}
use Rattle.theory.proofs.Generators.{sound_cancel}
use Rattle.theory.proofs.PowerSums.{powers_below, powers_below_is, power_sums}
use Rattle.theory.proofs.HalfSystems.{HalfSystem, square_negative, half_sum}

-- odd powers of a residue and its negative
pow_double : (a t : ℕ) → a ^ (t + t) ≡ (a * a) ^ t
pow_double a t = pow-add a t t ∙ sym (mul-pow a a t)

odd_negative : (p a b t : ℕ) → a + b ≡ p → Cong p (b ^ suc (t + t) + a ^ suc (t + t)) 0
odd_negative p a b t e =
    cong_trans
    (cong-add
    (eq_cong
    (pow-suc b (t + t) ∙ ap (λ (z : ℕ). z * b) (pow_double b t))
    (cong-mul (cong-pow t (square_negative p a b e)) (cong_refl b)))
    (cong_of_eq (pow-suc a (t + t) ∙ ap (λ (z : ℕ). z * a) (pow_double a t))))
    (eq_cong (omega (arith, ap (λ (z : ℕ). (a * a) ^ t * z) e)) (cong_zero ((a * a) ^ t)))

-- a point and its negative: from e + 2qs ≡ (q + q')s and s + s' ≡ 0 to e + (qs + q's') ≡ 0
pair_vanishes
    : (p e q q' s s' : ℕ)
    → Cong p (e + 2 * (q * s)) ((q + q') * s)
    → Cong p (s' + s) 0
    → Cong p (e + (q * s + q' * s')) 0
pair_vanishes p e q q' s s' term odd =
    cong_trans
    (eq_cong (omega arith) (cong-add half (cong_refl (q' * s'))))
    (eq_cong (omega arith) (cong_eq (cong_mul_left q' odd) (mul-zero q')))
  where
    half : Cong p (e + q * s) (q' * s)
    half = cong_cancel (q * s) (eq_cong (omega arith) (cong_eq term (omega arith)))

-- the quotient and the residue of a negative
record Opposite (p c a b : ℕ) : Type 0 where
  quotients : c * a / p + c * b / p + 1 ≡ c
  residues : c * a % p + c * b % p ≡ p

opposite : (p c a b : ℕ) → a + b ≡ p → 0 < b → c * a % p ≢ 0 → 0 < c → Opposite p c a b
opposite p c a b e bpos ne cpos = record { quotients = omega (arith, quotient, small); residues = omega (arith, residue, under) }
  where
    ppos : 0 < p
    ppos = omega arith

    under : c * a % p < p
    under = mod-lt (c * a) ppos

    small : c * a / p < c
    small = (div-lt_iff_lt-mul ppos).1 (mul-lt-mul_of_pos_left (omega arith) cpos)

    rest : ℕ
    rest = c - 1 - c * a / p

    digits : c * b ≡ rest * p + (p - c * a % p)
    digits =
        let whole : rest + c * a / p + 1 ≡ c = omega (arith, small) in
        omega (
          arith,
          under,
          mod-add-div (c * a) p,
          ap (λ (z : ℕ). c * z) e,
          ap (λ (z : ℕ). z * p) whole,
        )

    quotient : c * b / p ≡ rest
    quotient = ap (λ (z : ℕ). z / p) digits ∙ digits_div rest (omega (arith, pos_of_ne-zero ne))

    residue : c * b % p ≡ p - c * a % p
    residue = ap (λ (z : ℕ). z % p) digits ∙ digits_mod rest (omega (arith, pos_of_ne-zero ne))

module _ (p g : ℕ) (big : 1 < p) (sound : Sound p g) (c : ℕ) (cpos : 0 < c) (under : c < p) where
  not_zero : c % p ≢ 0
  not_zero e = omega (arith, sym (mod-eq_of_lt under) ∙ e)

  times_not_zero : (a : ℕ) → 0 < a → a < p → c * a % p ≢ 0
  times_not_zero a apos au e =
      omega (
        arith,
        cong_under
            au
            (omega arith)
            (sound_cancel
            p
            g
            big
            sound
            c
            not_zero
            (cong_eq (mod_zero_cong e) (sym (mul-zero c)))),
      )

  times_within : Within p (λ y. c * y % p)
  times_within y _ = mod-lt (c * y) (omega arith)

  times_one_to_one : OneToOne p (λ y. c * y % p)
  times_one_to_one y z hy hz e = cong_under hy hz (sound_cancel p g big sound c not_zero (mod-cong e))

  module _ (b : ℕ → ℕ) (r : Recurrence p b) where
    -- c^k·b_k is b_k + k·Q
    pub multiplied
        : (j : ℕ)
        → suc j ≤ p - 3
        → Cong p (c ^ suc j * b (suc j)) (b (suc j) + suc j * sum p (λ y. c * y / p * (c * y % p) ^ j))
    multiplied j u =
        cong_unscale
        p
        (omega arith)
        (eq_cong
        (omega arith)
        (cong_trans
        (cong_mul_left (c ^ suc j) sums)
        (cong_trans
        squared
        (cong_eq (cong-add (cong_sym sums) (cong_refl (p * (suc j * quotients)))) (omega arith)))))
      where
        quotients : ℕ
        quotients = sum p (λ y. c * y / p * (c * y % p) ^ j)

        sums : Cong (p * p) (p * b (suc j)) (powers_below p (suc j))
        sums = power_sums p g big sound b r (suc j) u

        outer : c ^ suc j * powers_below p (suc j) ≡ sum p (λ y. (c * y) ^ suc j)
        outer =
            ap (λ (z : ℕ). c ^ suc j * z) (powers_below_is p (suc j))
            ∙ sym (sum-mul p (c ^ suc j) (λ y. y ^ suc j))
            ∙ sum_ext p (λ y. c ^ suc j * y ^ suc j) (λ y. (c * y) ^ suc j) (λ y _. sym (mul-pow c y (suc j)))

        inner
            : sum p (λ y. (c * y % p) ^ suc j + p * (suc j * (c * y / p * (c * y % p) ^ j)))
            ≡ powers_below p (suc j) + p * (suc j * quotients)
        inner =
            sum-add p (λ y. (c * y % p) ^ suc j) (λ y. p * (suc j * (c * y / p * (c * y % p) ^ j)))
            ∙ ap₂
            ◌+◌
            (one_to_one_sum p (λ y. c * y % p) (λ z. z ^ suc j) times_within times_one_to_one
            ∙ sym (powers_below_is p (suc j)))
            (sum-mul p p (λ y. suc j * (c * y / p * (c * y % p) ^ j))
            ∙ ap (λ (z : ℕ). p * z) (sum-mul p (suc j) (λ y. c * y / p * (c * y % p) ^ j)))

        squared : Cong (p * p) (c ^ suc j * powers_below p (suc j)) (powers_below p (suc j) + p * (suc j * quotients))
        squared =
            eq_cong
            outer
            (cong_eq
            (sum-cong
            p
            (λ y. (c * y) ^ suc j)
            (λ y. (c * y % p) ^ suc j + p * (suc j * (c * y / p * (c * y % p) ^ j)))
            (λ y _.
            eq_cong
            (ap (λ (z : ℕ). z ^ suc j) (sym (mod-add-div (c * y) p)))
            (two_terms p (c * y / p) (c * y % p) j)))
            inner)

    module _ (h : ℕ) (odd : p ≡ suc (h + h)) (x : ℕ → ℕ) (half : HalfSystem p h x) (t : ℕ) (e : ℕ → ℕ) where
      -- what is asked of the term at a point: e is (c − 1 − 2q)·s^(k − 1), with q and s the quotient and the residue of
      -- c times the point
      abbrev pub Term : ℕ → Type 0
      Term i =
          Cong p (e i + 2 * (c * x i / p * (c * x i % p) ^ suc (t + t))) ((c - 1) * (c * x i % p) ^ suc (t + t))

      summand : ℕ → ℕ
      summand y = c * y / p * (c * y % p) ^ suc (t + t)

      -- a term, its point's summand and that of the negative vanish
      vanish : (i : ℕ) → i < h → Term i → Cong p (e i + (summand (x i) + summand (p - x i))) 0
      unfolding summand
      vanish i u term =
          pair_vanishes
          p
          (e i)
          (c * x i / p)
          (c * (p - x i) / p)
          ((c * x i % p) ^ suc (t + t))
          ((c * (p - x i) % p) ^ suc (t + t))
          (cong_eq term (ap (λ (z : ℕ). z * (c * x i % p) ^ suc (t + t)) (omega (arith, both.quotients))))
          (odd_negative p (c * x i % p) (c * (p - x i) % p) t both.residues)
        where
          both : Opposite p c (x i) (p - x i)
          both =
              opposite
              p
              c
              (x i)
              (p - x i)
              (omega (arith, half.under i u))
              (omega (arith, half.under i u))
              (times_not_zero (x i) (half.positive i u) (half.under i u))
              cpos

      all_vanish : ((i : ℕ) → i < h → Term i) → Cong p (sum h e + sum p summand) 0
      unfolding summand
      all_vanish terms =
          eq_cong
          (ap (λ (z : ℕ). sum h e + z) (half_sum p h odd x half summand ∙ start)
          ∙ sym
          (sum-add h e (λ i. summand (x i) + summand (p - x i))
          ∙ ap (λ (z : ℕ). sum h e + z) (sum-add h (λ i. summand (x i)) (λ i. summand (p - x i)))))
          (cong_eq
          (sum-cong h (λ i. e i + (summand (x i) + summand (p - x i))) (λ _. 0) (λ i u. vanish i u (terms i u)))
          (sum_nought h (λ _. 0) (λ _ _. refl)))
        where
          start
              : summand 0 + (sum h (λ i. summand (x i)) + sum h (λ i. summand (p - x i)))
              ≡ sum h (λ i. summand (x i)) + sum h (λ i. summand (p - x i))
          start =
              omega (
                arith,
                ap
                    (λ (z : ℕ). z * (c * 0 % p) ^ suc (t + t))
                    (ap (λ (z : ℕ). z / p) (mul-zero c) ∙ zero-div p)
                    ∙ zero-mul ((c * 0 % p) ^ suc (t + t)),
              )

      -- c^k·b_k + k·E is b_k, for E the sum of the terms
      pub half_system_sum
          : suc (suc (t + t)) ≤ p - 3
          → ((i : ℕ) → i < h → Term i)
          → Cong p (c ^ suc (suc (t + t)) * b (suc (suc (t + t))) + suc (suc (t + t)) * sum h e) (b (suc (suc (t + t))))
      unfolding summand
      half_system_sum u terms =
          cong_trans
          (cong-add (multiplied (suc (t + t)) u) (cong_refl (suc (suc (t + t)) * sum h e)))
          (eq_cong
          (omega arith)
          (cong_eq
          (cong-add
          (cong_refl (b (suc (suc (t + t)))))
          (cong_mul_left (suc (suc (t + t))) (all_vanish terms)))
          (omega arith)))
