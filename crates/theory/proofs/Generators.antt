-- What soundness gives: the powers of g run through the residues.
-- Main statements: generator_exponents (powers of g below p − 1 are different), sound_unit (a
-- residue other than 0 has an inverse), sound_cancel, fermat, inverse_is, quotient_is.
use mathlib.Core.Path.{◌≡◌, refl, ap, sym, ◌∙◌, subst}
use mathlib.Core.Logic.{◌≢◌, inl, inr}
use Prim.Native.Nat.{ℕ, zero, suc, ◌-◌, ◌*◌, ◌%◌, ◌^◌, ◌≤◌, ◌<◌}
use native.Mathlib.Nat.{mod-lt, mod-eq_of_lt, pow-suc, eq-or-lt_of_le, mul-one, mul_comm}
use native.Mathlib.Omega.{arith}
use Rattle.theory.specs.Residues.{inverse}
use Rattle.theory.specs.Pairs.{Sound}
use Rattle.theory.proofs.Powers.{pow_one, one_pow, pow-mul}
use Rattle.theory.proofs.Congruence.{Cong, cong_refl, cong_sym, cong_trans, cong_of_eq, eq_cong, cong_eq, cong-mul, cong_mul_left, cong-pow, cong_rem, cong-mod, mod-cong, mod_one_cong, cong_divide, unit_pow}
use Rattle.theory.proofs.Counting.{Within, Onto, onto_one_to_one}

-- the powers of g from the first, with 0 in front: a map of the numbers below p
table : ℕ → ℕ → ℕ → ℕ
table p g zero = 0
table p g (suc i) = g ^ suc i % p

module _ (p g : ℕ) (big : 1 < p) (sound : Sound p g) where
  pos : 0 < p
  pos = omega arith

  table_at : (i : ℕ) → 1 ≤ i → table p g i ≡ g ^ i % p
  unfolding table
  table_at zero h = omega arith
  table_at (suc i) h = refl

  table_within : Within p (table p g)
  unfolding table
  table_within zero h = h
  table_within (suc i) h = mod-lt (g ^ suc i) pos

  table_onto : Onto p (table p g)
  unfolding table
  table_onto zero h = (0, h, refl)
  table_onto (suc y) h =
      let found = sound (suc y) (omega arith) (omega arith) in
      (found.0, omega (arith, found.2), table_at found.0 found.1 ∙ found.3)

  -- the powers from 1 to p − 1 are different
  powers_different : (i j : ℕ) → 1 ≤ i → i ≤ p - 1 → 1 ≤ j → j ≤ p - 1 → Cong p (g ^ i) (g ^ j) → i ≡ j
  powers_different i j hi ui hj uj e =
      onto_one_to_one
      p
      (table p g)
      table_within
      table_onto
      i
      j
      (omega arith)
      (omega arith)
      (table_at i hi ∙ cong-mod e ∙ sym (table_at j hj))

  -- g^(p − 1) leaves 1
  pub generator_whole : Cong p (g ^ (p - 1)) 1
  generator_whole =
      elim (eq-or-lt_of_le one.2) [ inl e ↦ subst (λ (z : ℕ). Cong p (g ^ z) 1) e leaves | inr u ↦ absurd (early u) ]
    where
      one : (i : ℕ) × (1 ≤ i) × (i ≤ p - 1) × (g ^ i % p ≡ 1)
      one = sound 1 (omega arith) (omega arith)

      leaves : Cong p (g ^ one.0) 1
      leaves = mod_one_cong big one.3

      early : one.0 < p - 1 → ⊥
      early u =
          let again : Cong p (g ^ suc one.0) (g ^ 1) =
          eq_cong (pow-suc g one.0) (cong_trans (cong-mul leaves (cong_refl g)) (cong_of_eq (omega (arith, pow_one g))))
          in
          omega (arith, one.1, powers_different (suc one.0) 1 (omega arith) u (omega arith) (omega arith) again)

  -- the powers from 0 to p − 2 are different
  pub generator_exponents : (i j : ℕ) → i < p - 1 → j < p - 1 → Cong p (g ^ i) (g ^ j) → i ≡ j
  generator_exponents i j ui uj e =
      omega (
        arith,
        powers_different
            (suc i)
            (suc j)
            (omega arith)
            ui
            (omega arith)
            uj
            (eq_cong (pow-suc g i) (cong_eq (cong-mul e (cong_refl g)) (sym (pow-suc g j)))),
      )

  -- a power of a power that leaves 1
  pub generator_multiple : (c : ℕ) → Cong p (g ^ ((p - 1) * c)) 1
  generator_multiple c = eq_cong (pow-mul g (p - 1) c) (cong_eq (cong-pow c generator_whole) (one_pow c))

  -- the powers of g have inverses
  pub generator_unit : (i : ℕ) → Cong p ((g ^ (p - 2)) ^ i * g ^ i) 1
  generator_unit i =
      unit_pow
      (g ^ (p - 2))
      g
      i
      (eq_cong (sym (pow-suc g (p - 2)) ∙ ap (λ (z : ℕ). g ^ z) (omega arith)) generator_whole)

  -- a residue other than 0 is a power of g
  pub sound_power : (a : ℕ) → a % p ≢ 0 → (i : ℕ) × Cong p (g ^ i) a
  sound_power a ne =
      let found = sound (a % p) (omega arith) (omega (arith, mod-lt a pos)) in
      (found.0, mod-cong found.3)

  -- and has an inverse
  pub sound_unit : (a : ℕ) → a % p ≢ 0 → (c : ℕ) × Cong p (c * a) 1
  sound_unit a ne =
      let found = sound_power a ne in (
        (g ^ (p - 2)) ^ found.0,
        cong_trans (cong_mul_left ((g ^ (p - 2)) ^ found.0) (cong_sym found.1)) (generator_unit found.0),
      )

  pub sound_cancel : (a : ℕ) {x y : ℕ} → a % p ≢ 0 → Cong p (a * x) (a * y) → Cong p x y
  sound_cancel a ne e = cong_divide (sound_unit a ne).0 a (sound_unit a ne).1 e

  pub fermat : (a : ℕ) → a % p ≢ 0 → Cong p (a ^ (p - 1)) 1
  fermat a ne =
      cong_trans
      (cong-pow (p - 1) (cong_sym is))
      (eq_cong (sym (pow-mul g i (p - 1)) ∙ ap (λ (z : ℕ). g ^ z) (mul_comm i (p - 1))) (generator_multiple i))
    where
      i : ℕ
      i = (sound_power a ne).0

      is : Cong p (g ^ i) a
      is = (sound_power a ne).1

  pub inverse_is : (a : ℕ) → a % p ≢ 0 → Cong p (a * inverse p a) 1
  unfolding inverse
  inverse_is a ne =
      cong_trans
      (cong_mul_left a (cong_rem p (a ^ (p - 2))))
      (eq_cong (mul_comm a (a ^ (p - 2)) ∙ sym (pow-suc a (p - 2)) ∙ ap (λ (z : ℕ). a ^ z) (omega arith)) (fermat a ne))

  -- a quotient: N·(1/D) is b where D·b is N
  pub quotient_is : (D N b : ℕ) → D % p ≢ 0 → b < p → Cong p (D * b) N → N * inverse p D % p ≡ b
  quotient_is D N b ne u e =
      cong-mod
      (cong_trans
      (cong-mul (cong_sym e) (cong_refl (inverse p D)))
      (eq_cong (omega arith) (cong_eq (cong_mul_left b (inverse_is D ne)) (mul-one b))))
      ∙ mod-eq_of_lt u
