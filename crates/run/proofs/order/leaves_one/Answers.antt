use Rattle.std.proofs.Common.{ℕ, ◌%◌, ◌^◌, eqb, ap, ◌∙◌}
use Rattle.theory.proofs.Modular.{pow-mod}
use Rattle.run.proofs.order.leaves_one.Goals as goal

pub returns : goal.returns
returns g c =
    let m = g.W.Arithmetic.modulus c.args.arithmetic.now in
    record {
      value = ap (λ (n : ℕ). eqb n 1)
          (c.take_out.ensures.value ∙ c.raise-power.ensures.value
          ∙ ap (λ (n : ℕ). n ^ c.args.exponent % m) c.bring_in.ensures.value ∙ pow-mod 2 c.args.exponent m);
    }
