use Rattle.std.proofs.Common.{arith}
use Rattle.arithmetic.proofs.Differences.{with_opposite}
use Rattle.arithmetic.proofs.Halving.{halved_difference}
use Rattle.arithmetic.proofs.montgomery.MontgomeryArithmetic.sub.Goals as goal

pub returns-clause-value : goal.returns-clause-value
returns-clause-value c =
    let p = c.args.self.now.modulus in
    let a = c.args.a.0 in
    let b = c.args.b.0 in
    halved_difference p.number c.settle.result.0 a b (omega (arith, p.fit.1))
    (with_opposite p.number c.settle.result.0 a b c.opposite.result c.settle.ensures.value c.opposite.ensures.value)
