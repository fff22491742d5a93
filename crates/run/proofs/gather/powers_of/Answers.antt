use Rattle.std.proofs.Common.{ℕ, ◌*◌, ◌%◌, ◌^◌, ◌<◌, ◌≢◌, length, sym, refl, ap, ◌∙◌, pow-suc, add-one, arith, length-set, get_or-set_other, get_or-set_same, below_more}
use native.Mathlib.Nat.{pow-zero}
use Rattle.theory.proofs.Modular.{mul_mod_left}
use Rattle.run.proofs.gather.powers_of.Goals as goal

pub loop-place-init : goal.loop-place-init
loop-place-init g c =
    let w = g.W.Arithmetic in
    let a = c.args.arithmetic.now in (
      (λ k h. absurd (omega (arith, h))),
      c.bring_in-power.ensures.value ∙ ap (λ (n : ℕ). n % w.modulus a) (sym (pow-zero (w.residue a c.args.ratio))),
      refl,
    )

pub loop-place-preserved : goal.loop-place-preserved
loop-place-preserved g c =
    let w = g.W.Arithmetic in
    let a = c.args.arithmetic.now in
    let r = w.residue a c.args.ratio in
    let m = w.modulus a in
    let u = c.loop-place.place-index in
    let powers = c.loop-place.place-items in
    let inv = c.loop-place.invariant in (
      below_more _ _
          (λ k h. let ne : k ≢ u = omega arith in rw get_or-set_other (inv.0 k h))
          (let lt : u < length powers = omega (arith, c.loop-place-test.true, inv.2) in get_or-set_same powers u c.take_out.result 0 lt ∙ c.take_out.ensures.value ∙ inv.1),
      c.mul-power.ensures.value ∙ ap (λ (n : ℕ). n * r % m) inv.1 ∙ mul_mod_left (r ^ u) r m
          ∙ ap (λ (n : ℕ). n % m) (sym (ap (λ (n : ℕ). r ^ n) (add-one u) ∙ pow-suc r u)),
      length-set powers u c.take_out.result ∙ inv.2,
    )

pub returns : goal.returns
returns g c = record { value = λ u h. c.loop-place.invariant.0 u (omega (arith, h, c.loop-place-test.false)) }
