use Rattle.run.proofs.StretchTerms.{Along}
use Rattle.run.proofs.stretch.take_stretch.Given as goal

abbrev pub invariant-loop-i : goal.invariant-loop-i
invariant-loop-i g l =
    let w = g.W.Arithmetic in
    let a = l.arithmetic in
    Along (w.modulus a) (w.residue a l.ratio) (w.residue a l.initial.sum) l.initial.point (w.residue a l.initial.weight) l._i
    (w.residue a l.sum) l.point (w.residue a l.weight)
