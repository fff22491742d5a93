use Rattle.std.proofs.Common.{◌≡◌, length}
use Rattle.published.proofs.ways.Case.counted.Given as goal

abbrev pub invariant-loop-i : goal.invariant-loop-i
invariant-loop-i g l = length l.cells ≡ 256
