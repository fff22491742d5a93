-- Both kinds of sum under one name.
-- Main statements: can_run_usable and usable_can_run (the test of the doubling sum), run_gives_bernoulli.
use mathlib.Core.Path.{◌≡◌, refl, ap₂}
use mathlib.Core.Bool.{Bool, true, false, not, ◌&&◌}
use Prim.Native.Nat.{ℕ, ◌-◌, ◌*◌, ◌%◌, ◌^◌}
use lib.Dec.{eqb}
use borrow.Author.Tests.{eqb-true, eqb_apart, eq-eqb, apart_eqb, not-true, clash}
use Rattle.theory.specs.declared.kind.Kind.{Kind}
use Rattle.theory.specs.declared.kind.Kind.TheVariants.{Direct, Doubling}
use Rattle.theory.specs.Pairs.{Fit, Sound}
use Rattle.theory.specs.Bernoulli.{BernoulliMod}
use Rattle.theory.specs.Doubling.{row_length_of, Usable}
use Rattle.theory.specs.Kinds.{run_result, can_run}
use Rattle.theory.proofs.Theorems.{direct_gives_bernoulli, doubling_gives_bernoulli}

-- two tests that both pass
pub both : (s t : Bool) → s && t ≡ true → (s ≡ true) × (t ≡ true)
both true t e = (refl, e)
both false t e = absurd (clash e)

pub can_run_usable : (p k : ℕ) → can_run Doubling p k ≡ true → Usable p k
unfolding can_run
can_run_usable p k e =
    let parts = both (eqb ((p - 1) % (2 * row_length_of p)) 0) (not (eqb (2 ^ k % p) 1)) e in (
      eqb-true ((p - 1) % (2 * row_length_of p)) 0 parts.0,
      eqb_apart (2 ^ k % p) 1 (not-true (eqb (2 ^ k % p) 1) parts.1),
    )

pub usable_can_run : (p k : ℕ) → Usable p k → can_run Doubling p k ≡ true
unfolding can_run
usable_can_run p k usable =
    ap₂
    (λ (s t : Bool). s && not t)
    (eq-eqb ((p - 1) % (2 * row_length_of p)) 0 usable.0)
    (apart_eqb (2 ^ k % p) 1 usable.1)

-- for a fit and sound pair a run of either kind that can be opened gives B_k modulo p
pub run_gives_bernoulli
    : (kind : Kind) (k p g : ℕ)
    → Fit k p g
    → Sound p g
    → can_run kind p k ≡ true
    → BernoulliMod p k (run_result kind p g k)
unfolding run_result
run_gives_bernoulli Direct k p g fit sound _ = direct_gives_bernoulli k p g fit sound
run_gives_bernoulli Doubling k p g fit sound can = doubling_gives_bernoulli k p g fit sound (can_run_usable p k can)
