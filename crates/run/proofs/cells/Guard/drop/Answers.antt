use Rattle.run.proofs.GroupTerms.{zeroes_made}
use Rattle.run.proofs.cells.Guard.drop.Goals as goal

pub returns : goal.returns
returns c = record { zeroes = zeroes_made 256 }
