use Rattle.arithmetic.proofs.Halving.{halved_product}
use Rattle.arithmetic.proofs.montgomery.MontgomeryArithmetic.mul.Goals as goal

pub returns-clause-value : goal.returns-clause-value
returns-clause-value c =
    let p = c.args.self.now.modulus in
    halved_product p.number c.reduce.result c.args.a.0 c.args.b.0 p.fit.0 c.reduce.ensures.value
