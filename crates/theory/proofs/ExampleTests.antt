-- What the tests of the worked pairs stand for.
-- Main statements: tests_told.
use mathlib.Core.Path.{◌≡◌, refl, ap, sym, ◌∙◌}
use mathlib.Core.Bool.{Bool, true, false, ◌&&◌, ◌||◌}
use mathlib.Core.Logic.{◌⊎◌, inl, inr}
use Prim.Native.Nat.{ℕ, zero, suc, ◌-◌, ◌%◌, ◌^◌, ◌<◌}
use native.Mathlib.Nat.{lt-suc_self, le_step}
use native.Mathlib.Omega.{arith}
use lib.Dec.{eqb, leb}
use borrow.Author.Tests.{eqb-true, leb-true, eq-eqb, clash}
use Rattle.theory.specs.Pairs.{Fit, Sound}
use Rattle.theory.specs.Examples.{some_below, every_below, fit_test, sound_test, TestsTold}
use Rattle.theory.proofs.Sums.{last_or_below}
use Rattle.theory.proofs.EitherKind.{both, can_run_usable, usable_can_run}

-- one of two tests passes
one_of : (s t : Bool) → s || t ≡ true → (s ≡ true) ⊎ (t ≡ true)
one_of true t e = inl refl
one_of false t e = inr e

or_right : (s t : Bool) → t ≡ true → s || t ≡ true
or_right true t e = refl
or_right false t e = e

-- some number below n passes
some_found : (test : ℕ → Bool) (n : ℕ) → some_below test n ≡ true → (i : ℕ) × (i < n) × (test i ≡ true)
some_found test zero e = absurd (clash e)
some_found test (suc n) e =
    elim (one_of (some_below test n) (test n) e) [
      | inl f ↦ let found = some_found test n f in (found.0, le_step found.1, found.2)
      | inr f ↦ (n, lt-suc_self n, f)
    ]

some_told : (test : ℕ → Bool) (n i : ℕ) → i < n → test i ≡ true → some_below test n ≡ true
some_told test zero i u e = absurd (omega arith)
some_told test (suc n) i u e =
    elim (last_or_below u) [
      | inl d ↦ or_right (some_below test n) (test n) (ap test (sym d) ∙ e)
      | inr v ↦ ap (λ (s : Bool). s || test n) (some_told test n i v e)
    ]

-- every number below n passes
every_found : (test : ℕ → Bool) (n : ℕ) → every_below test n ≡ true → (i : ℕ) → i < n → test i ≡ true
every_found test zero e i u = absurd (omega arith)
every_found test (suc n) e i u =
    let parts = both (every_below test n) (test n) e in
    elim (last_or_below u) [ inl d ↦ ap test d ∙ parts.1 | inr v ↦ every_found test n parts.0 i v ]

every_told : (test : ℕ → Bool) (n : ℕ) → ((i : ℕ) → i < n → test i ≡ true) → every_below test n ≡ true
every_told test zero h = refl
every_told test (suc n) h =
    ap (λ (s : Bool). s && test n) (every_told test n (λ i u. h i (le_step u))) ∙ h n (lt-suc_self n)

fit_told : (p g k : ℕ) → fit_test p g k ≡ true → Fit k p g
fit_told p g k e =
    let a = both (eqb (p % 2) 1 && leb 5 p && leb p 2147483647 && leb 2 g && leb g (p - 1) && eqb (k % 2) 0 && leb 2 k) (leb k (p - 3)) e in
    let b = both (eqb (p % 2) 1 && leb 5 p && leb p 2147483647 && leb 2 g && leb g (p - 1) && eqb (k % 2) 0) (leb 2 k) a.0 in
    let c = both (eqb (p % 2) 1 && leb 5 p && leb p 2147483647 && leb 2 g && leb g (p - 1)) (eqb (k % 2) 0) b.0 in
    let d = both (eqb (p % 2) 1 && leb 5 p && leb p 2147483647 && leb 2 g) (leb g (p - 1)) c.0 in
    let f = both (eqb (p % 2) 1 && leb 5 p && leb p 2147483647) (leb 2 g) d.0 in
    let h = both (eqb (p % 2) 1 && leb 5 p) (leb p 2147483647) f.0 in
    let i = both (eqb (p % 2) 1) (leb 5 p) h.0 in (
      (eqb-true (p % 2) 1 i.0, leb-true 5 p i.1, leb-true p 2147483647 h.1),
      (leb-true 2 g f.1, leb-true g (p - 1) d.1),
      (eqb-true (k % 2) 0 c.1, leb-true 2 k b.1, leb-true k (p - 3) a.1),
    )

sound_told : (p g : ℕ) → sound_test p g ≡ true → Sound p g
sound_told p g e zero low high = absurd (omega arith)
sound_told p g e (suc x) low high =
    let found =
    some_found
    (λ i. eqb (g ^ suc i % p) (suc x))
    (p - 1)
    (every_found (λ y. some_below (λ i. eqb (g ^ suc i % p) (suc y)) (p - 1)) (p - 1) e x high)
    in
    (suc found.0, omega arith, found.1, eqb-true (g ^ suc found.0 % p) (suc x) found.2)

told_sound : (p g : ℕ) → Sound p g → sound_test p g ≡ true
told_sound p g sound =
    every_told
    (λ y. some_below (λ i. eqb (g ^ suc i % p) (suc y)) (p - 1))
    (p - 1)
    (λ y u.
    let found = sound (suc y) (omega arith) u in
    some_told
    (λ i. eqb (g ^ suc i % p) (suc y))
    (p - 1)
    (found.0 - 1)
    (omega (arith, found.1, found.2))
    (eq-eqb
    (g ^ suc (found.0 - 1) % p)
    (suc y)
    (ap (λ (z : ℕ). g ^ z % p) {y = found.0} (omega (arith, found.1)) ∙ found.3)))

pub tests_told : TestsTold
tests_told p g k = (
  fit_told p g k,
  sound_told p g,
  (λ e sound. clash (sym e ∙ told_sound p g sound)),
  (can_run_usable p k, usable_can_run p k),
)
