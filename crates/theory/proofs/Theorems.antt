-- The theorems as the contracts state them: fitness and remainders are turned into p = 2h + 1, k = 2t + 2 and
-- congruences here, and nowhere else.
-- Main statements: bernoulli_exist, bernoulli_unique, power_sums_give, direct_gives_bernoulli,
-- doubling_gives_bernoulli, sound_rows_fit, order_computed, rows_fit, order_least_divisor.
use mathlib.Core.Path.{◌≡◌, refl, ap, sym, ◌∙◌}
use mathlib.Core.Logic.{◌≢◌}
use Prim.Native.Nat.{ℕ, zero, suc, ◌+◌, ◌-◌, ◌*◌, ◌/◌, ◌%◌, ◌^◌, ◌≤◌, ◌<◌}
use native.Mathlib.Decide.{dec_lt}
use native.Mathlib.Numerals.{add-one}
use native.Mathlib.Omega.{arith}
use Rattle.theory.specs.Sums.{sum}
use Rattle.theory.specs.Theorems.{power_sum, BernoulliExist, BernoulliUnique, PowerSumsGiveBernoulli, DirectGivesBernoulli, DoublingGivesBernoulli, SoundRowsFit, OrderComputed, RowsFit, OrderLeastDivisor}
use Rattle.theory.proofs.Sums.{sum_first, sum_ext}
use Rattle.theory.proofs.Powers.{zero_pow}
use Rattle.theory.proofs.Congruence.{cong-mod, cong_mod_one}
use Rattle.theory.proofs.Generators.{fermat}
use Rattle.theory.proofs.PowerSums.{powers_below, powers_below_is, solution, one_solution, power_sums}
use Rattle.theory.proofs.OrderOfTwo.{two_not_zero, order_is, order_unique, rows_fit_leaves, leaves_rows_fit, order_divides_whole, order_is_least_divisor}
use Rattle.theory.proofs.DirectSum.{direct_gives}
use Rattle.theory.proofs.DoublingSum.{doubling_gives}

-- an odd number from its half, and an even one that is not 0
odd_half : (p : ℕ) → p % 2 ≡ 1 → p ≡ suc (p / 2 + p / 2)
odd_half p o = omega arith

even_half : (k : ℕ) → k % 2 ≡ 0 → 2 ≤ k → k ≡ suc (suc ((k / 2 - 1) + (k / 2 - 1)))
even_half k e low = omega arith

-- the sum of the powers from 1 on, and the sum from 0 on
power_sum_is : (p n : ℕ) → 1 < p → 1 ≤ n → power_sum p n ≡ powers_below p n
unfolding power_sum
power_sum_is p zero big h = absurd (omega arith)
power_sum_is p (suc n) big h =
    sym
    (powers_below_is p (suc n)
    ∙ ap (λ (z : ℕ). sum z (λ x. x ^ suc n)) {y = suc (p - 1)} (omega arith)
    ∙ sum_first (p - 1) (λ x. x ^ suc n)
    ∙ omega (
      arith,
      zero_pow n,
      sum_ext (p - 1) (λ x. suc x ^ suc n) (λ x. (x + 1) ^ suc n) (λ x _. ap (λ (z : ℕ). z ^ suc n) (sym (add-one x))),
    ))

pub bernoulli_exist : BernoulliExist
bernoulli_exist p g sound =
    elim (dec_lt 1 p) [
      | yes big ↦ solution p g big sound
      | no small ↦ (
        (λ _. 1),
        record
            { first = refl; under = λ n a b. absurd (omega arith); divided = λ n a b. absurd (omega arith) },
      )
    ]

pub bernoulli_unique : BernoulliUnique
bernoulli_unique p g sound b c r s zero u = r.first ∙ sym s.first
bernoulli_unique p g sound b c r s (suc n) u = one_solution p g (omega arith) sound b c r s (suc n) u

pub power_sums_give : PowerSumsGiveBernoulli
power_sums_give p g sound b r n low u =
    cong-mod (power_sums p g (omega arith) sound b r n u)
    ∙ ap (λ (z : ℕ). z % (p * p)) (sym (power_sum_is p n (omega arith) low))

pub direct_gives_bernoulli : DirectGivesBernoulli
direct_gives_bernoulli k p g fit sound =
    let found = bernoulli_exist p g sound in (
      found.0,
      found.1,
      direct_gives
          p
          g
          (omega arith)
          sound
          (p / 2)
          (odd_half p fit.0.0)
          fit.1.0
          (omega arith)
          k
          (k / 2 - 1)
          (even_half k fit.2.0 fit.2.1)
          fit.2.2
          found.0
          found.1,
    )

pub doubling_gives_bernoulli : DoublingGivesBernoulli
doubling_gives_bernoulli k p g fit sound usable =
    let found = bernoulli_exist p g sound in (
      found.0,
      found.1,
      doubling_gives
          p
          g
          (omega arith)
          sound
          (p / 2)
          (odd_half p fit.0.0)
          k
          (k / 2 - 1)
          (even_half k fit.2.0 fit.2.1)
          fit.2.2
          found.0
          found.1
          usable.1,
    )

pub sound_rows_fit : SoundRowsFit
sound_rows_fit p g fit sound =
    let odd = odd_half p fit.0 in
    leaves_rows_fit
    p
    (p / 2)
    odd
    (omega arith)
    (cong_mod_one (omega arith) (fermat p g (omega arith) sound 2 two))
  where
    two : 2 % p ≢ 0
    two = two_not_zero p (p / 2) (odd_half p fit.0) (omega arith) 1

pub order_computed : OrderComputed
order_computed p o low =
    let is = order_is p (p / 2) (odd_half p o) (omega arith) in
    (is, λ n given. order_unique p n _ given is)

pub rows_fit : RowsFit
rows_fit p o low = (
  rows_fit_leaves p (p / 2) (odd_half p o) (omega arith),
  leaves_rows_fit p (p / 2) (odd_half p o) (omega arith),
)

pub order_least_divisor : OrderLeastDivisor
order_least_divisor p o low one = (
  order_divides_whole p (p / 2) (odd_half p o) (omega arith) one,
  λ d dpos _ leaves least. order_is_least_divisor p (p / 2) (odd_half p o) (omega arith) d one dpos leaves least,
)
