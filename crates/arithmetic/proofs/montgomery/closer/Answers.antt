use Rattle.arithmetic.proofs.Newton.{newton_bits}
use Rattle.arithmetic.proofs.montgomery.closer.Goals as goal

pub returns : goal.returns
returns c = record { doubled = newton_bits c.args.p c.args.x }
