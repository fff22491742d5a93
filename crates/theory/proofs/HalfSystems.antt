-- Half systems: (p − 1)/2 residues that with their negatives are all residues other than 0.
-- Main statements: half_sum (a sum over all residues is a sum over the points and their negatives).
use mathlib.Core.Path.{◌≡◌, refl, ap, ap₂, sym, ◌∙◌}
use mathlib.Core.Logic.{◌⊎◌, inl, inr}
use Prim.Native.Nat.{ℕ, zero, suc, ◌+◌, ◌-◌, ◌*◌, ◌<◌}
use native.Mathlib.Decide.{dec_lt}
use native.Mathlib.Omega.{arith}
use Rattle.theory.specs.Sums.{sum}
use Rattle.theory.proofs.Sums.{sum_first, sum_split, sum_ext}
use Rattle.theory.proofs.Congruence.{Cong, cong_sym, cong_trans, cong_of_eq, eq_cong}
use Rattle.theory.proofs.Counting.{Within, OneToOne, one_to_one_sum}

-- h points between 0 and p whose squares are all different modulo p
pub record HalfSystem (p h : ℕ) (x : ℕ → ℕ) : Type 0 where
  pub positive : (i : ℕ) → i < h → 0 < x i
  pub under : (i : ℕ) → i < h → x i < p
  pub apart : (i j : ℕ) → i < h → j < h → Cong p (x i * x i) (x j * x j) → i ≡ j

-- the square of a negative
pub square_negative : (p a b : ℕ) → a + b ≡ p → Cong p (b * b) (a * a)
square_negative p a b e =
    record
    { up = a; down = b; same = omega (arith, ap (λ (z : ℕ). a * z) e, ap (λ (z : ℕ). b * z) e) }

-- 0, the points, and their negatives
side : (p h : ℕ) (x : ℕ → ℕ) (i : ℕ) → Dec (i < h) → ℕ
side p h x i (yes _) = x i
side p h x i (no _) = p - x (i - h)

whole : (p h : ℕ) (x : ℕ → ℕ) → ℕ → ℕ
whole p h x zero = 0
whole p h x (suc i) = side p h x i (dec_lt i h)

whole_low : (p h : ℕ) (x : ℕ → ℕ) (i : ℕ) → i < h → whole p h x (suc i) ≡ x i
unfolding whole side
whole_low p h x i u = at (dec_lt i h)
  where
    at : (d : Dec (i < h)) → side p h x i d ≡ x i
    at (yes _) = refl
    at (no d) = absurd (d u)

whole_high : (p h : ℕ) (x : ℕ → ℕ) (i : ℕ) → whole p h x (suc (h + i)) ≡ p - x i
unfolding whole side
whole_high p h x i = at (dec_lt (h + i) h)
  where
    at : (d : Dec (h + i < h)) → side p h x (h + i) d ≡ p - x i
    at (yes u) = absurd (omega arith)
    at (no _) = ap (λ (z : ℕ). p - x z) (omega arith)

module _ (p h : ℕ) (odd : p ≡ suc (h + h)) (x : ℕ → ℕ) (half : HalfSystem p h x) where
  -- where a value of the whole stands: at the k-th point or its negative
  record Place (i : ℕ) : Type 0 where
    k : ℕ
    low : k < h
    square : Cong p (whole p h x (suc i) * whole p h x (suc i)) (x k * x k)
    side_of : ((i ≡ k) × (whole p h x (suc i) ≡ x k)) ⊎ ((i ≡ h + k) × (whole p h x (suc i) + x k ≡ p))

  place : (i : ℕ) → suc i < p → Place i
  place i u = at (dec_lt i h)
    where
      at : Dec (i < h) → Place i
      at (yes v) =
          let e = whole_low p h x i v in
          record
          { k = i; low = v; square = cong_of_eq (ap₂ ◌*◌ e e); side_of = inl (refl, e) }
      at (no d) =
          let is : i ≡ h + (i - h) = omega arith in
          let v : i - h < h = omega arith in
          let sum_is : whole p h x (suc i) + x (i - h) ≡ p =
          ap (λ (z : ℕ). whole p h x (suc z) + x (i - h)) is
          ∙ ap (λ (z : ℕ). z + x (i - h)) (whole_high p h x (i - h))
          ∙ omega (arith, half.under (i - h) v)
          in
          record {
            k = i - h;
            low = v;
            square = square_negative p (x (i - h)) (whole p h x (suc i)) (omega (arith, sum_is));
            side_of = inr (is, sum_is);
          }

  between : (i : ℕ) → suc i < p → (0 < whole p h x (suc i)) × (whole p h x (suc i) < p)
  between i u =
      let q = place i u in
      let a = half.positive q.k q.low in
      let b = half.under q.k q.low in
      elim q.side_of [ inl e ↦ omega (arith, e.1, a, b) | inr e ↦ omega (arith, e.1, a, b) ]

  whole_within : Within p (whole p h x)
  unfolding whole
  whole_within zero u = u
  whole_within (suc i) u = (between i u).1

  whole_one_to_one : OneToOne p (whole p h x)
  unfolding whole
  whole_one_to_one zero zero hi hj e = refl
  whole_one_to_one zero (suc j) hi hj e = omega (arith, e, (between j hj).0)
  whole_one_to_one (suc i) zero hi hj e = omega (arith, e, (between i hi).0)
  whole_one_to_one (suc i) (suc j) hi hj e = ap suc (together (place i hi) (place j hj))
    where
      together : (q : Place i) (r : Place j) → i ≡ j
      together q r =
          elim q.side_of [
            | inl d ↦ elim r.side_of [ inl f ↦ omega (arith, d, f, k_same) | inr f ↦ omega (arith, d, f, e, x_same) ]
            | inr d ↦ elim r.side_of [ inl f ↦ omega (arith, d, f, e, x_same) | inr f ↦ omega (arith, d, f, k_same) ]
          ]
        where
          k_same : q.k ≡ r.k
          k_same =
              half.apart
              q.k
              r.k
              q.low
              r.low
              (cong_trans (cong_sym q.square) (eq_cong (ap₂ ◌*◌ e e) r.square))

          x_same : x q.k ≡ x r.k
          x_same = ap x k_same

  -- a sum over all residues: 0, the points, and their negatives
  pub half_sum : (f : ℕ → ℕ) → sum p f ≡ f 0 + (sum h (λ i. f (x i)) + sum h (λ i. f (p - x i)))
  unfolding whole
  half_sum f =
      sym (one_to_one_sum p (whole p h x) f whole_within whole_one_to_one)
      ∙ ap (λ (z : ℕ). sum z (λ i. f (whole p h x i))) odd
      ∙ sum_first (h + h) (λ i. f (whole p h x i))
      ∙ ap
      (λ (z : ℕ). f 0 + z)
      (sum_split h h (λ i. f (whole p h x (suc i)))
      ∙ ap₂
      ◌+◌
      (sum_ext h (λ i. f (whole p h x (suc i))) (λ i. f (x i)) (λ i u. ap f (whole_low p h x i u)))
      (sum_ext
      h
      (λ i. f (whole p h x (suc (h + i))))
      (λ i. f (p - x i))
      (λ i _. ap f (whole_high p h x i))))
