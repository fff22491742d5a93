use Rattle.std.proofs.Common.{◌≡◌, ◌+◌}
use Rattle.run.proofs.WalkSteps.{Working}
use Rattle.run.proofs.share.Share.take_doubling.Given as goal

abbrev pub invariant-loop-left : goal.invariant-loop-left
invariant-loop-left g l =
    let rows = l.walk.rows in
    (rows.arithmetic.now ≡ l.self.arithmetic.now) × (rows.index ≡ l.self.run.now.index) × (rows.modulus ≡ l.self.run.now.modulus) × (rows.generator ≡ l.self.run.now.generator)
    × Working l.self.run.now.modulus l.self.run.now.generator l.self.run.now.index l.walk.taken l.walk.place (g.W.Arithmetic.residue l.self.arithmetic.now l.walk.next.sum)
    l.left (l.self.run.now.taken + l.self.terms) 0

abbrev pub decreases-loop-left : goal.decreases-loop-left
decreases-loop-left g l = l.left
