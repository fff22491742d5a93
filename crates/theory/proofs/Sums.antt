-- Finite sums: equal terms, sums of sums, factors, first terms, splits.
-- Main statements: sum_ext, sum-add, sum-mul, sum_const, sum_mono, sum_squeeze, sum_first, sum_split.
use mathlib.Core.Path.{◌≡◌, refl, ap, ap₂, sym, ◌∙◌}
use mathlib.Core.Logic.{◌⊎◌, inl, inr}
use Prim.Native.Nat.{ℕ, zero, suc, ◌+◌, ◌*◌, ◌≤◌, ◌<◌}
use native.Mathlib.Nat.{lt-suc_self, add-zero, add-suc, mul-zero, le_step, eq-or-lt_of_le, le_of_suc-le-suc}
use native.Mathlib.Omega.{arith}
use Rattle.theory.specs.Sums.{sum}

-- a number below m + 1 is m or below m
pub last_or_below : {y m : ℕ} → y < suc m → (y ≡ m) ⊎ (y < m)
last_or_below h = eq-or-lt_of_le (le_of_suc-le-suc h)

pub sum_zero : (f : ℕ → ℕ) → sum 0 f ≡ 0
unfolding sum
sum_zero f = refl

pub sum_suc : (n : ℕ) (f : ℕ → ℕ) → sum (suc n) f ≡ sum n f + f n
unfolding sum
sum_suc n f = refl

-- sums of equal terms are equal
pub sum_ext : (n : ℕ) (f g : ℕ → ℕ) → ((i : ℕ) → i < n → f i ≡ g i) → sum n f ≡ sum n g
unfolding sum
sum_ext zero f g e = refl
sum_ext (suc n) f g e = ap₂ ◌+◌ (sum_ext n f g (λ i h. e i (le_step h))) (e n (lt-suc_self n))

pub sum-add : (n : ℕ) (f g : ℕ → ℕ) → sum n (λ i. f i + g i) ≡ sum n f + sum n g
unfolding sum
sum-add zero f g = refl
sum-add (suc n) f g = omega (arith, sum-add n f g)

pub sum-mul : (n c : ℕ) (f : ℕ → ℕ) → sum n (λ i. c * f i) ≡ c * sum n f
unfolding sum
sum-mul zero c f = omega arith
sum-mul (suc n) c f = omega (arith, sum-mul n c f)

pub sum_const : (n c : ℕ) → sum n (λ _. c) ≡ n * c
unfolding sum
sum_const zero c = omega arith
sum_const (suc n) c = omega (arith, sum_const n c)

-- a sum of noughts
pub sum_nought : (n : ℕ) (f : ℕ → ℕ) → ((i : ℕ) → i < n → f i ≡ 0) → sum n f ≡ 0
sum_nought n f e = sum_ext n f (λ _. 0) e ∙ sum_const n 0 ∙ mul-zero n

-- larger terms have a larger sum
pub sum_mono : (n : ℕ) (f g : ℕ → ℕ) → ((i : ℕ) → i < n → f i ≤ g i) → sum n f ≤ sum n g
unfolding sum
sum_mono zero f g h = omega arith
sum_mono (suc n) f g h = omega (arith, sum_mono n f g (λ i u. h i (le_step u)), h n (lt-suc_self n))

-- and the terms are equal where the sum is not larger
pub sum_squeeze
    : (n : ℕ) (f g : ℕ → ℕ)
    → ((i : ℕ) → i < n → f i ≤ g i)
    → sum n g ≤ sum n f
    → (i : ℕ)
    → i < n
    → f i ≡ g i
unfolding sum
sum_squeeze zero f g h s i u = omega arith
sum_squeeze (suc n) f g h s i u =
    elim (last_or_below u) [
      | inl e ↦ ap f e ∙ last ∙ sym (ap g e)
      | inr v ↦ sum_squeeze n f g below (omega (arith, s, last)) i v
    ]
  where
    below : (j : ℕ) → j < n → f j ≤ g j
    below j v = h j (le_step v)

    last : f n ≡ g n
    last = omega (arith, s, sum_mono n f g below, h n (lt-suc_self n))

-- the first term apart
pub sum_first : (n : ℕ) (f : ℕ → ℕ) → sum (suc n) f ≡ f 0 + sum n (λ i. f (suc i))
unfolding sum
sum_first zero f = omega arith
sum_first (suc n) f = omega (arith, sum_first n f)

-- the first n terms, and the m terms behind them
pub sum_split : (n m : ℕ) (f : ℕ → ℕ) → sum (n + m) f ≡ sum n f + sum m (λ i. f (n + i))
unfolding sum
sum_split n zero f = ap (λ (k : ℕ). sum k f) (add-zero n) ∙ sym (add-zero (sum n f))
sum_split n (suc m) f = ap (λ (k : ℕ). sum k f) (add-suc n m) ∙ omega (arith, sum_split n m f)
