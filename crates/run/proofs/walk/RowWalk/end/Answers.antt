use Rattle.run.proofs.WalkSteps.{walk_ended}
use Rattle.run.proofs.walk.RowWalk.end.Goals as goal

pub returns-clause-place : goal.returns-clause-place
returns-clause-place g c =
    let walk = c.args.self.now in
    let rows = walk.rows in
    walk_ended rows.modulus rows.generator rows.index rows.fit.0 rows.row_length _ _ walk.walking c.requires.inside rows.length_is
    c.take_out.ensures.value c.take_out-2.ensures.value
