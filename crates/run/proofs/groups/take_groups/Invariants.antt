use Rattle.std.proofs.Common.{◌≡◌, ◌*◌, ◌%◌}
use Rattle.run.proofs.GroupTerms.{Gathering}
use Rattle.run.proofs.groups.take_groups.Given as goal

-- twice as many groups as turns are counted, and the odd chain is one group ahead of the even one
abbrev pub invariant-loop-i : goal.invariant-loop-i
invariant-loop-i g l =
    let rows = l.rows in
    let p = rows.modulus in
    let residue = g.W.Arithmetic.residue rows.arithmetic.now in
    let d = g.S.DigitSource in
    Gathering p (residue rows.ratio) (2 * l._i) l.from.point (residue l.from.weight) l.point (residue l.even)
    l.initial.cells l.cells (d.modulus l.source) (d.taken l.initial.source) (d.taken l.source)
    × (residue l.odd ≡ residue l.even * residue rows.eighth % p)
