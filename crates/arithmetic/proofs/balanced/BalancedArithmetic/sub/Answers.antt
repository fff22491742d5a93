use Rattle.std.proofs.Common.{◌-ℤ◌, ap, ◌∙◌, arith}
use borrow.Author.Differences.{ints}
use Rattle.arithmetic.specs.Words.{remainder}
use Rattle.arithmetic.proofs.Signed.{remainder_difference}
use Rattle.arithmetic.proofs.balanced.BalancedArithmetic.sub.Goals as goal

pub returns-clause-value : goal.returns-clause-value
returns-clause-value c =
    let p = c.args.self.now.modulus in
    let a = c.args.a.0 in
    let b = c.args.b.0 in
    c.settle.ensures.value
    ∙ ap (remainder p.number) {y = a -ℤ b} (omega (arith, ints))
    ∙ remainder_difference p.number a b (a -ℤ b) (omega (arith, p.fit.1)) (omega (arith, ints))
