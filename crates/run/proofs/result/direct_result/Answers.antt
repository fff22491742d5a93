use Rattle.run.proofs.Results.{direct_result_worked}
use Rattle.run.proofs.result.direct_result.Goals as goal

pub returns : goal.returns
returns g c = record {
  value = direct_result_worked _ c.args.index c.args.generator c.args.sum _ _ _ _ _ _ _ _
      c.bring_in.ensures.value c.raise-power.ensures.value c.bring_in-2.ensures.value c.sub-divisor.ensures.value
      c.bring_in-3.ensures.value c.bring_in-4.ensures.value c.mul-twice.ensures.value c.quotient.ensures.value;
}
