use Rattle.std.proofs.Common.{◌≡◌, ℕ, ◌+◌, ◌*◌, ◌^◌, ap, ◌∙◌, arith, pow-add}
use Rattle.digits.proofs.Digits.{whole_remainder}
use Rattle.digits.proofs.doubling.DoublingDivision.divide.Goals as goal

pub loop-i-preserved : goal.loop-i-preserved
loop-i-preserved c =
    let x = c.start-quotient.result.0 * c.args.self.now.modulus.number + c.start-quotient.result.1 in (
      omega (arith, c.doubled.ensures.whole, c.loop-i.invariant.0, ap (λ (k : ℕ). k * x) (pow-add 2 c.loop-i._i 1)),
      c.doubled.ensures.rest,
    )

pub returns-clause-remainder : goal.returns-clause-remainder
returns-clause-remainder c =
    let p = c.args.self.now.modulus.number in
    let x = c.args.x in
    let all : c.loop-i._i ≡ 8 = omega arith in
    let whole : c.loop-i.quotient * p + c.loop-i.rest ≡ 256 * x =
    c.loop-i.invariant.0
    ∙ ap (λ (k : ℕ). 2 ^ k * (c.start-quotient.result.0 * p + c.start-quotient.result.1)) all
    ∙ ap (λ (k : ℕ). 256 * k) c.start-quotient.ensures.whole in
    whole_remainder p (256 * x) c.loop-i.quotient c.loop-i.rest whole c.loop-i.invariant.1
