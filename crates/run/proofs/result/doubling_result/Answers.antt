use Rattle.run.proofs.Results.{doubling_result_worked}
use Rattle.run.proofs.result.doubling_result.Goals as goal

pub returns : goal.returns
returns g c = record {
  value = doubling_result_worked _ c.args.index c.args.sum _ _ _ _ _ _ _ _
      c.bring_in-two.ensures.value c.raise-power.ensures.value c.invert.ensures.value c.bring_in.ensures.value
      c.sub-below.ensures.value c.mul-divisor.ensures.value c.bring_in-2.ensures.value c.quotient.ensures.value;
}
