use Rattle.run.specs.Calls.{Stands, left_of}
use Rattle.run.specs.Places.{kind_of}
use Rattle.work.proofs.whole.carry_to_end.Given as goal

abbrev pub invariant-loop-run : goal.invariant-loop-run
invariant-loop-run g l =
    Stands l.run (kind_of l.initial.run.progress) l.initial.run.index l.initial.run.modulus l.initial.run.generator l.run.taken

abbrev pub decreases-loop-run : goal.decreases-loop-run
decreases-loop-run g l = left_of l.run
