use Rattle.arithmetic.proofs.Halving.{halved_sum}
use Rattle.arithmetic.proofs.montgomery.MontgomeryArithmetic.add.Goals as goal

pub returns-clause-value : goal.returns-clause-value
returns-clause-value c =
    halved_sum c.args.self.now.modulus.number c.settle.result.0 c.args.a.0 c.args.b.0 c.settle.ensures.value
