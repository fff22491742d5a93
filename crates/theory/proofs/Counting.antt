-- Maps of 0, …, m − 1 to itself, by counting how often they meet each number.
-- Main statements: onto_one_to_one (a map that meets every number meets none twice), one_to_one_sum (a map that meets
-- none twice keeps every sum), one_to_one_meets (and meets every number).
use mathlib.Core.Path.{◌≡◌, refl, ap, ap₂, sym, ◌∙◌, subst}
use mathlib.Core.Bool.{Bool, true, false}
use mathlib.Core.Logic.{◌≢◌, inl, inr}
use Prim.Native.Nat.{ℕ, zero, suc, ◌+◌, ◌*◌, ◌≤◌, ◌<◌}
use native.Mathlib.Nat.{lt-suc_self, le_step, lt_irrefl, zero-mul, one-mul, mul-one, le_of_eq}
use native.Mathlib.Decide.{ℕ_discrete}
use native.Mathlib.Omega.{arith}
use lib.Dec.{eqb}
use borrow.Author.Tests.{eq-eqb, apart_eqb}
use Rattle.theory.specs.Sums.{sum}
use Rattle.theory.proofs.Sums.{last_or_below, sum_zero, sum_suc, sum_ext, sum-add, sum_nought, sum_squeeze}

-- s maps the numbers below m to numbers below m
abbrev pub Within : ℕ → (ℕ → ℕ) → Type 0
Within m s = (i : ℕ) → i < m → s i < m

-- s meets each number below m, at a number below m
abbrev pub Onto : ℕ → (ℕ → ℕ) → Type 0
Onto m s = (y : ℕ) → y < m → (i : ℕ) × (i < m) × (s i ≡ y)

-- s has different values at different numbers below m
abbrev pub OneToOne : ℕ → (ℕ → ℕ) → Type 0
OneToOne m s = (i j : ℕ) → i < m → j < m → s i ≡ s j → i ≡ j

abbrev bit : Bool → ℕ
bit true = 1
bit false = 0

-- 1 where a and b are the same number, else 0
same : ℕ → ℕ → ℕ
same a b = bit (eqb a b)

same_eq : (a b : ℕ) → a ≡ b → same a b ≡ 1
unfolding same
same_eq a b e = ap bit (eq-eqb a b e)

same_apart : (a b : ℕ) → a ≢ b → same a b ≡ 0
unfolding same
same_apart a b ne = ap bit (apart_eqb a b ne)

-- how often s meets y in its first n values
hits : ℕ → (ℕ → ℕ) → ℕ → ℕ
hits n s y = sum n (λ i. same (s i) y)

hits_zero : (s : ℕ → ℕ) (y : ℕ) → hits 0 s y ≡ 0
unfolding hits
hits_zero s y = sum_zero (λ i. same (s i) y)

hits_suc : (n : ℕ) (s : ℕ → ℕ) (y : ℕ) → hits (suc n) s y ≡ hits n s y + same (s n) y
unfolding hits
hits_suc n s y = sum_suc n (λ i. same (s i) y)

hits_none : (n : ℕ) (s : ℕ → ℕ) (y : ℕ) → ((i : ℕ) → i < n → s i ≢ y) → hits n s y ≡ 0
hits_none zero s y d = hits_zero s y
hits_none (suc n) s y d =
    omega (
      arith,
      hits_suc n s y,
      hits_none n s y (λ i h. d i (le_step h)),
      same_apart (s n) y (d n (lt-suc_self n)),
    )

hits_one : (n : ℕ) (s : ℕ → ℕ) (y i : ℕ) → i < n → s i ≡ y → 1 ≤ hits n s y
hits_one zero s y i h e = omega arith
hits_one (suc n) s y i h e = elim (last_or_below h) [
  | inl d ↦ omega (arith, hits_suc n s y, same_eq (s n) y (ap s (sym d) ∙ e))
  | inr u ↦ omega (arith, hits_suc n s y, hits_one n s y i u e)
]

hits_two : (n : ℕ) (s : ℕ → ℕ) (y i j : ℕ) → i < j → j < n → s i ≡ y → s j ≡ y → 2 ≤ hits n s y
hits_two zero s y i j h u d e = omega arith
hits_two (suc n) s y i j h u d e = elim (last_or_below u) [
  | inl f ↦ omega (
    arith,
    hits_suc n s y,
    same_eq (s n) y (ap s (sym f) ∙ e),
    hits_one n s y i (subst (λ (z : ℕ). i < z) f h) d,
  )
  | inr v ↦ omega (arith, hits_suc n s y, hits_two n s y i j h v d e)
]

hits_at_most_one : (n : ℕ) (s : ℕ → ℕ) (y : ℕ) → OneToOne n s → hits n s y ≤ 1
hits_at_most_one zero s y inj = omega (arith, hits_zero s y)
hits_at_most_one (suc n) s y inj =
    elim (ℕ_discrete (s n) y) [
      | yes e ↦ omega (
        arith,
        hits_suc n s y,
        same_eq (s n) y e,
        hits_none
            n
            s
            y
            (λ i h d.
            lt_irrefl n (subst (λ (z : ℕ). z < n) (inj i n (le_step h) (lt-suc_self n) (d ∙ sym e)) h)),
      )
      | no d ↦ omega (
        arith,
        hits_suc n s y,
        same_apart (s n) y d,
        hits_at_most_one n s y (λ i j h u e. inj i j (le_step h) (le_step u) e),
      )
    ]

-- of the numbers below m one meets a
meets_once : (m a : ℕ) (f : ℕ → ℕ) → a < m → sum m (λ y. same a y * f y) ≡ f a
meets_once zero a f h = omega arith
meets_once (suc m) a f h =
    sum_suc m (λ y. same a y * f y)
    ∙ (elim (last_or_below h) [
      | inl e ↦ omega (arith, missed e, ap (λ (z : ℕ). z * f m) (same_eq a m e), ap f e)
      | inr u ↦ omega (arith, meets_once m a f u, vanish m (λ d. lt_irrefl m (subst (λ (z : ℕ). z < m) d u)))
    ])
  where
    vanish : (y : ℕ) → a ≢ y → same a y * f y ≡ 0
    vanish y d = ap (λ (z : ℕ). z * f y) (same_apart a y d) ∙ zero-mul (f y)

    missed : a ≡ m → sum m (λ y. same a y * f y) ≡ 0
    missed e = sum_nought m (λ y. same a y * f y) (λ y u. vanish y (λ d. lt_irrefl m (subst (λ (z : ℕ). z < m) (sym d ∙ e) u)))

-- a sum over the values of s, value by value
count_sum
    : (n m : ℕ) (s f : ℕ → ℕ)
    → ((i : ℕ) → i < n → s i < m)
    → sum n (λ i. f (s i)) ≡ sum m (λ y. hits n s y * f y)
count_sum zero m s f h =
    sum_zero (λ i. f (s i))
    ∙ sym
    (sum_nought m (λ y. hits 0 s y * f y) (λ y _. ap (λ (z : ℕ). z * f y) (hits_zero s y) ∙ zero-mul (f y)))
count_sum (suc n) m s f h =
    sum_suc n (λ i. f (s i))
    ∙ ap₂ ◌+◌ (count_sum n m s f (λ i u. h i (le_step u))) (sym (meets_once m (s n) f (h n (lt-suc_self n))))
    ∙ sym (sum-add m (λ y. hits n s y * f y) (λ y. same (s n) y * f y))
    ∙ sum_ext
    m
    (λ y. hits n s y * f y + same (s n) y * f y)
    (λ y. hits (suc n) s y * f y)
    (λ y _. omega (arith, ap (λ (z : ℕ). z * f y) (hits_suc n s y)))

hits_total : (m : ℕ) (s : ℕ → ℕ) → Within m s → sum m (hits m s) ≡ sum m (λ _. 1)
hits_total m s h =
    sum_ext m (hits m s) (λ y. hits m s y * 1) (λ y _. sym (mul-one (hits m s y))) ∙ sym (count_sum m m s (λ _. 1) h)

-- the theorems

pub onto_one_to_one : (m : ℕ) (s : ℕ → ℕ) → Within m s → Onto m s → OneToOne m s
onto_one_to_one m s within onto i j hi hj e = omega (arith, apart i j hi hj e, apart j i hj hi (sym e))
  where
    once : (y : ℕ) → y < m → hits m s y ≡ 1
    once y u =
        sym
        (sum_squeeze
        m
        (λ _. 1)
        (hits m s)
        (λ z v. hits_one m s z (onto z v).0 (onto z v).1 (onto z v).2)
        (le_of_eq (hits_total m s within))
        y
        u)

    apart : (a b : ℕ) → a < m → b < m → s a ≡ s b → ¬ (a < b)
    apart a b ha hb d h = omega (arith, once (s b) (within b hb), hits_two m s (s b) a b h hb d refl)

one_to_one_once : (m : ℕ) (s : ℕ → ℕ) → Within m s → OneToOne m s → (y : ℕ) → y < m → hits m s y ≡ 1
one_to_one_once m s within inj =
    sum_squeeze
    m
    (hits m s)
    (λ _. 1)
    (λ y _. hits_at_most_one m s y inj)
    (le_of_eq (sym (hits_total m s within)))

pub one_to_one_sum
    : (m : ℕ) (s f : ℕ → ℕ) → Within m s → OneToOne m s → sum m (λ i. f (s i)) ≡ sum m f
one_to_one_sum m s f within inj =
    count_sum m m s f within
    ∙ sum_ext
    m
    (λ y. hits m s y * f y)
    f
    (λ y u. ap (λ (z : ℕ). z * f y) (one_to_one_once m s within inj y u) ∙ one-mul (f y))

-- no number below m is missed
pub one_to_one_meets
    : (m : ℕ) (s : ℕ → ℕ) → Within m s → OneToOne m s → (y : ℕ) → y < m → ((i : ℕ) → i < m → s i ≢ y) → ⊥
one_to_one_meets m s within inj y u missed =
    omega (arith, one_to_one_once m s within inj y u, hits_none m s y missed)
