use Rattle.std.proofs.Common.{◌∙◌}
use Rattle.run.proofs.Results.{quotient_worked}
use Rattle.run.proofs.result.quotient.Goals as goal

pub returns : goal.returns
returns g c = record {
  value = c.take_out.ensures.value
      ∙ quotient_worked _ _ c.args.sum _ _ _ _ _ c.bring_in.ensures.value c.mul-product.ensures.value c.invert.ensures.value c.mul.ensures.value;
}
