use Rattle.std.proofs.Common.{◌+ℤ◌, ap, ◌∙◌, arith}
use borrow.Author.Differences.{ints}
use Rattle.arithmetic.specs.Words.{remainder}
use Rattle.arithmetic.proofs.Signed.{remainder_sum}
use Rattle.arithmetic.proofs.balanced.BalancedArithmetic.add.Goals as goal

pub returns-clause-value : goal.returns-clause-value
returns-clause-value c =
    let p = c.args.self.now.modulus in
    let a = c.args.a.0 in
    let b = c.args.b.0 in
    c.settle.ensures.value
    ∙ ap (remainder p.number) {y = a +ℤ b} (omega (arith, ints))
    ∙ remainder_sum p.number a b (omega (arith, p.fit.1))
