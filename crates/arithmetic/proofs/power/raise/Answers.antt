use Rattle.std.proofs.Common.{◌^◌, ◌∙◌}
use Rattle.arithmetic.proofs.Squaring.{gathered_one}
use Rattle.arithmetic.proofs.power.raise.Goals as goal

pub returns : goal.returns
returns g c =
    let w = g.W.Arithmetic in
    let a = c.args.arithmetic.now in
    record {
      value = c.raise_on.ensures.value
          ∙ gathered_one (w.modulus a) (w.residue a c.bring_in.result) (w.residue a c.args.base ^ c.args.exponent) c.bring_in.ensures.value;
    }
