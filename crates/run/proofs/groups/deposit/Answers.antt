use Rattle.std.proofs.Common.{arith}
use Rattle.digits.proofs.Digits.{group_under}
use Rattle.run.proofs.groups.deposit.Goals as goal

pub bounds-cells-cell : goal.bounds-cells-cell
bounds-cells-cell g c =
    let p = g.S.DigitSource.modulus c.args.source.now in
    omega (arith, group_under p 8 c.args.point c.requires.below, c.group-group.ensures.quotient)

pub bounds-cells-cell-2 : goal.bounds-cells-cell-2
bounds-cells-cell-2 g c =
    let p = g.S.DigitSource.modulus c.args.source.now in
    omega (arith, group_under p 8 c.args.point c.requires.below, c.group-group.ensures.quotient)
