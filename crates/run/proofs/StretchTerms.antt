-- A stretch of a row, term by term.
-- Main statements: stretch_none, stretch_more, along_none, along_low, along_high.
-- Assumes nothing.
use Rattle.std.proofs.Common.{◌≡◌, ℕ, ◌+◌, ◌-◌, ◌*◌, ◌/◌, ◌%◌, ◌^◌, ◌<◌, ◌≤◌, sym, ap, ◌∙◌, add-zero, add_assoc, mod-lt, mod-eq_of_lt, one-mul, pow-suc, mul-one, add-one, arith}
use native.Mathlib.Nat.{mod-add-mod, pow-zero, pow-succ', div-eq_of_lt}
use Rattle.theory.specs.Residues.{minus, signed}
use Rattle.theory.specs.Sums.{sum}
use Rattle.theory.proofs.Sums.{sum_suc, sum_zero}
use Rattle.theory.proofs.Modular.{mul_mod_left, mul_mod_right, signed-mod, add_negative}
use Rattle.run.specs.Stretches.{stretch}
use Rattle.run.proofs.Quotients.{divided}

-- the term that comes after n terms
abbrev pub term_after : ℕ → ℕ → ℕ → ℕ → ℕ → ℕ
term_after p r x v n = signed p (2 * (2 ^ n * x % p) / p) (v * r ^ n)

pub stretch_none : (p r x v : ℕ) → stretch p r x v 0 ≡ 0
unfolding stretch
stretch_none p r x v = sum_zero (λ j. signed p (2 * (2 ^ j * x % p) / p) (v * r ^ j))

pub stretch_more : (p r x v n : ℕ) → stretch p r x v (n + 1) ≡ stretch p r x v n + term_after p r x v n
unfolding stretch
stretch_more p r x v n =
    ap (λ (m : ℕ). sum m (λ j. signed p (2 * (2 ^ j * x % p) / p) (v * r ^ j))) (add-one n)
    ∙ sum_suc n (λ j. signed p (2 * (2 ^ j * x % p) / p) (v * r ^ j))

-- after n terms from the sum s₀, the point x₀ and the weight v₀
pub record Along (p r s₀ x₀ v₀ n s x v : ℕ) : Type 0 where
  pub sum_is : s ≡ (s₀ + stretch p r x₀ v₀ n) % p
  pub point_is : x ≡ 2 ^ n * x₀ % p
  pub weight_is : v ≡ v₀ * r ^ n % p

pub along_none : (p r s x v : ℕ) → s < p → x < p → v < p → Along p r s x v 0 s x v
along_none p r s x v sum point weight = record {
  sum_is = sym (ap (λ (m : ℕ). (s + m) % p) (stretch_none p r x v) ∙ ap (λ (m : ℕ). m % p) (add-zero s) ∙ mod-eq_of_lt sum);
  point_is = sym (ap (λ (m : ℕ). m % p) (one-mul x) ∙ mod-eq_of_lt point);
  weight_is = sym (ap (λ (m : ℕ). v * m % p) (pow-zero r) ∙ ap (λ (m : ℕ). m % p) (mul-one v) ∙ mod-eq_of_lt weight);
}

double_point : (p n x₀ x : ℕ) → x ≡ 2 ^ n * x₀ % p → 2 * x % p ≡ 2 ^ (n + 1) * x₀ % p
double_point p n x₀ x point =
    ap (λ (m : ℕ). 2 * m % p) point ∙ mul_mod_right 2 (2 ^ n * x₀) p
    ∙ ap (λ (m : ℕ). m % p) (sym (ap (λ (m : ℕ). 2 ^ m * x₀) (add-one n) ∙ omega (arith, ap (λ (m : ℕ). m * x₀) (pow-succ' 2 n))))

next_weight : (p r n v₀ v : ℕ) → v ≡ v₀ * r ^ n % p → v * r % p ≡ v₀ * r ^ (n + 1) % p
next_weight p r n v₀ v weight =
    ap (λ (m : ℕ). m * r % p) weight ∙ mul_mod_left (v₀ * r ^ n) r p
    ∙ ap (λ (m : ℕ). m % p) (sym (ap (λ (m : ℕ). v₀ * r ^ m) (add-one n) ∙ omega (arith, ap (λ (m : ℕ). v₀ * m) (pow-suc r n))))

-- one term more, whose part of the sum is f
more : (p r s₀ x₀ v₀ n s x v f x' : ℕ) → Along p r s₀ x₀ v₀ n s x v → term_after p r x₀ v₀ n ≡ f → x' ≡ 2 * x % p
    → Along p r s₀ x₀ v₀ (n + 1) ((s + f) % p) x' (v * r % p)
more p r s₀ x₀ v₀ n s x v f x' along term point = record {
  sum_is =
      ap (λ (m : ℕ). (m + f) % p) along.sum_is ∙ mod-add-mod (s₀ + stretch p r x₀ v₀ n) p f
      ∙ ap (λ (m : ℕ). m % p) (add_assoc s₀ (stretch p r x₀ v₀ n) f ∙ ap (λ (m : ℕ). s₀ + m) (sym (stretch_more p r x₀ v₀ n ∙ ap (λ (m : ℕ). stretch p r x₀ v₀ n + m) term)));
  point_is = point ∙ double_point p n x₀ x along.point_is;
  weight_is = next_weight p r n v₀ v along.weight_is;
}

-- a point below p/2: its weight counts
pub along_low : (p r s₀ x₀ v₀ n s x v : ℕ) → Along p r s₀ x₀ v₀ n s x v → 2 * x < p → Along p r s₀ x₀ v₀ (n + 1) ((s + v) % p) (2 * x) (v * r % p)
along_low p r s₀ x₀ v₀ n s x v along low =
    let digit : 2 * (2 ^ n * x₀ % p) / p ≡ 0 = ap (λ (m : ℕ). 2 * m / p) (sym along.point_is) ∙ div-eq_of_lt low in
    more p r s₀ x₀ v₀ n s x v v (2 * x) along
    (ap (λ (d : ℕ). signed p d (v₀ * r ^ n)) digit ∙ sym along.weight_is)
    (sym (mod-eq_of_lt low))

-- any other point: the negative of its weight counts
pub along_high : (p r s₀ x₀ v₀ n s x v : ℕ) → Along p r s₀ x₀ v₀ n s x v → x < p → p ≤ 2 * x → Along p r s₀ x₀ v₀ (n + 1) (minus p s v) (2 * x - p) (v * r % p)
along_high p r s₀ x₀ v₀ n s x v along under high =
    let whole = divided 1 (2 * x - p) p (2 * x) (omega arith) (omega arith) in
    let digit : 2 * (2 ^ n * x₀ % p) / p ≡ 1 = ap (λ (m : ℕ). 2 * m / p) (sym along.point_is) ∙ sym whole.0 in
    let term : term_after p r x₀ v₀ n ≡ minus p 0 v =
    ap (λ (d : ℕ). signed p d (v₀ * r ^ n)) digit ∙ sym (signed-mod p 1 (v₀ * r ^ n) (omega arith)) ∙ ap (minus p 0) (sym along.weight_is) in
    let along' = more p r s₀ x₀ v₀ n s x v (minus p 0 v) (2 * x - p) along term whole.1 in
    record { sum_is = sym (add_negative p s v (omega arith)) ∙ along'.sum_is; point_is = along'.point_is; weight_is = along'.weight_is }

pub along_under : (p r s₀ x₀ v₀ n s x v : ℕ) → 0 < p → Along p r s₀ x₀ v₀ n s x v → x < p
along_under p r s₀ x₀ v₀ n s x v positive along =
    let under : 2 ^ n * x₀ % p < p = mod-lt (2 ^ n * x₀) positive in
    omega (arith, along.point_is)

-- the same with the sum, the point and the weight as they were worked
pub along_as : (p r s₀ x₀ v₀ n s x v s' x' v' : ℕ) → s' ≡ s → x' ≡ x → v' ≡ v → Along p r s₀ x₀ v₀ n s x v → Along p r s₀ x₀ v₀ n s' x' v'
along_as p r s₀ x₀ v₀ n s x v s' x' v' sum point weight along =
    record { sum_is = sum ∙ along.sum_is; point_is = point ∙ along.point_is; weight_is = weight ∙ along.weight_is }
