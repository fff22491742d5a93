use Rattle.std.proofs.Common.{◌+◌}
use Rattle.run.proofs.DirectTerms.{Standing}
use Rattle.run.proofs.share.Share.take_direct.Given as goal

-- the run stands where it would after the terms before it and those of this share
abbrev pub invariant-loop-i : goal.invariant-loop-i
invariant-loop-i g l =
    let w = g.W.Arithmetic in
    Standing (w.modulus l.self.arithmetic.now) l.self.run.now.generator l.self.run.now.index (l.self.run.now.taken + l._i)
    (w.residue l.self.arithmetic.now l.sum) l.point (w.residue l.self.arithmetic.now l.weight)
