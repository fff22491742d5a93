use Rattle.std.proofs.Common.{ap, ◌∙◌, arith, w32, SFits, rules}
use Rattle.arithmetic.specs.Words.{remainder}
use Rattle.arithmetic.proofs.Signed.{product_words, remainder_product}
use Rattle.arithmetic.proofs.balanced.BalancedArithmetic.mul.Goals as goal

pub returns-clause-value : goal.returns-clause-value
returns-clause-value c =
    let p = c.args.self.now.modulus in
    let a = c.args.a.0 in
    let b = c.args.b.0 in
    let left : SFits w32 a = search rules in
    let right : SFits w32 b = search rules in
    c.settle.ensures.value
    ∙ ap (remainder p.number) (product_words a b left right)
    ∙ remainder_product p.number a b (omega (arith, p.fit.1))
