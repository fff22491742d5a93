use Rattle.std.proofs.Common.{◌≡◌, length}
use Rattle.run.specs.Calls.{Stands, left_of}
use Rattle.theory.specs.declared.kind.Kind.TheVariants.{Doubling}
use Rattle.work.proofs.whole.count_to_end.Given as goal

abbrev pub invariant-loop-source : goal.invariant-loop-source
invariant-loop-source g l =
    Stands l.run Doubling l.initial.run.index l.initial.run.modulus l.initial.run.generator l.run.taken
    × (length l.cells ≡ 256)
    × (l.source.division.modulus.number ≡ l.initial.run.modulus)

abbrev pub decreases-loop-source : goal.decreases-loop-source
decreases-loop-source g l = left_of l.run
