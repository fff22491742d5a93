use Rattle.std.proofs.Common.{refl}
use Rattle.session.specs.Histories.{history, newest, total, since_begin}
use Rattle.theory.specs.Kinds.{can_run}
use Rattle.theory.specs.Doubling.{order, first_one, row_length_of}
use Rattle.session.proofs.examples.worked_history_holds.Goals as goal

pub returns : goal.returns
unfolding history newest total since_begin can_run order first_one row_length_of
returns c = record { computed = refl }
