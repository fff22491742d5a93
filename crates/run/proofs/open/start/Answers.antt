use Rattle.run.proofs.Opening.{direct_started}
use Rattle.run.proofs.open.start.Goals as goal

pub returns-in-Direct : goal.returns-in-Direct
returns-in-Direct g c =
    let a = c.args.arithmetic.now in
    record { started = direct_started c.args.kind c.args.index (g.W.Arithmetic.modulus a) c.in-Direct.is (g.met.W.Arithmetic.fit a).1 }
