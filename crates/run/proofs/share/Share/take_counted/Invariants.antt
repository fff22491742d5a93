use Rattle.std.proofs.Common.{◌≡◌, ℕ, ◌+◌, ◌%◌}
use Rattle.theory.specs.Doubling.{row_length_of}
use Rattle.run.specs.Counting.{weighed, groups_of}
use Rattle.run.proofs.GroupTerms.{Tally}
use Rattle.run.proofs.WalkSteps.{Working}
use Rattle.run.proofs.share.Share.take_counted.Given as goal

abbrev pub invariant-loop-left : goal.invariant-loop-left
invariant-loop-left g l =
    let rows = l.walk.rows in
    let residue = g.W.Arithmetic.residue l.self.arithmetic.now in
    let d = g.S.DigitSource in
    let p = l.self.run.now.modulus in
    let n = row_length_of p in
    (rows.arithmetic.now ≡ l.self.arithmetic.now) × (rows.index ≡ l.self.run.now.index) × (rows.modulus ≡ l.self.run.now.modulus) × (rows.generator ≡ l.self.run.now.generator)
    × Working p l.self.run.now.generator l.self.run.now.index l.walk.taken l.walk.place (residue l.walk.next.sum) l.left (l.self.run.now.taken + l.self.terms) (weighed p (residue rows.ratio) 8 l.cells)
    × ((done : ℕ) × Tally p n l.walk.place l.left l.self.terms (groups_of 8 n (l.self.run.now.taken % n) l.self.terms) l.cells (d.modulus l.source) (d.taken l.initial.source) (d.taken l.source) done)

abbrev pub decreases-loop-left : goal.decreases-loop-left
decreases-loop-left g l = l.left
