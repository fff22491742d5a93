-- Binomial coefficients and powers of sums.
-- Main statements: binomial (the powers of x + 1), two_terms (the powers of x + p·q modulo p²).
use mathlib.Core.Path.{◌≡◌, refl, ap, sym, ◌∙◌}
use Prim.Native.Nat.{ℕ, zero, suc, ◌+◌, ◌*◌, ◌^◌, ◌<◌}
use native.Mathlib.Nat.{pow-zero, pow-suc, lt-suc_self, le_of_suc-le-suc, le_of_lt}
use native.Mathlib.Omega.{arith}
use Rattle.theory.specs.Sums.{sum}
use Rattle.theory.specs.Bernoulli.{choose}
use Rattle.theory.proofs.Sums.{sum_suc, sum_first, sum_ext, sum-add, sum-mul}
use Rattle.theory.proofs.Powers.{pow_one}
use Rattle.theory.proofs.Congruence.{Cong, cong_of_eq, cong_trans, cong-mul, cong_refl, eq_cong}

-- nothing above the diagonal, and 1 on it
pub choose_above : (n j : ℕ) → n < j → choose n j ≡ 0
unfolding choose
choose_above n zero h = omega arith
choose_above zero (suc j) h = refl
choose_above (suc n) (suc j) h = omega (arith, choose_above n j (le_of_suc-le-suc h), choose_above n (suc j) (le_of_lt h))

pub choose_self : (n : ℕ) → choose n n ≡ 1
unfolding choose
choose_self zero = refl
choose_self (suc n) = omega (arith, choose_self n, choose_above n (suc n) (lt-suc_self n))

-- n + 1 over n
pub choose_below : (n : ℕ) → choose (suc n) n ≡ suc n
unfolding choose
choose_below zero = refl
choose_below (suc n) = omega (arith, choose_below n, choose_self (suc n))

-- (x + 1)^n is the sum of the C(n, j)·x^j
pub binomial : (n x : ℕ) → suc x ^ n ≡ sum (suc n) (λ j. choose n j * x ^ j)
unfolding choose sum
binomial zero x = pow-zero (suc x) ∙ omega (arith, pow-zero x)
binomial (suc n) x =
    pow-suc (suc x) n ∙ ap (λ (z : ℕ). z * suc x) (binomial n x) ∙ sym (first ∙ (pascal ∙ join))
  where
    old : ℕ → ℕ
    old j = choose n j * x ^ j

    further : ℕ → ℕ
    further j = choose n (suc j) * x ^ suc j

    first
        : sum (suc (suc n)) (λ j. choose (suc n) j * x ^ j)
        ≡ 1 * x ^ 0 + sum (suc n) (λ j. choose (suc n) (suc j) * x ^ suc j)
    first = sum_first (suc n) (λ j. choose (suc n) j * x ^ j)

    pascal
        : 1 * x ^ 0 + sum (suc n) (λ j. choose (suc n) (suc j) * x ^ suc j)
        ≡ 1 * x ^ 0 + sum (suc n) (λ j. x * old j + further j)
    pascal =
        ap
        (λ (z : ℕ). 1 * x ^ 0 + z)
        (sum_ext
        (suc n)
        (λ j. choose (suc n) (suc j) * x ^ suc j)
        (λ j. x * old j + further j)
        (λ j _. omega (arith, ap (λ (z : ℕ). choose n j * z) (pow-suc x j))))

    join : 1 * x ^ 0 + sum (suc n) (λ j. x * old j + further j) ≡ sum (suc n) old * suc x
    join =
        omega (
          arith,
          sum-add (suc n) (λ j. x * old j) further,
          sum-mul (suc n) x old,
          sum_first (suc n) old,
          sum_suc (suc n) old,
          ap (λ (z : ℕ). z * x ^ suc n) (choose_above n (suc n) (lt-suc_self n)),
        )

-- (x + p·q)^(k + 1) is x^(k + 1) + (k + 1)·p·q·x^k modulo p²
pub two_terms
    : (p q x k : ℕ) → Cong (p * p) ((x + p * q) ^ suc k) (x ^ suc k + p * (suc k * (q * x ^ k)))
two_terms p q x zero =
    cong_of_eq (omega (arith, pow_one (x + p * q), pow_one x, ap (λ (z : ℕ). p * (q * z)) (pow-zero x)))
two_terms p q x (suc k) =
    eq_cong
    (pow-suc (x + p * q) (suc k))
    (cong_trans
    (cong-mul (two_terms p q x k) (cong_refl (x + p * q)))
    record {
      up = 0;
      down = suc k * (q * x ^ k) * q;
      same = omega (arith, pow-suc x (suc k), ap (λ (z : ℕ). p * (q * z)) (pow-suc x k), ap (λ (z : ℕ). p * (k * (q * z))) (pow-suc x k));
    })
