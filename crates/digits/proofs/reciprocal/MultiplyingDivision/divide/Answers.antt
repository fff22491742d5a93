use Rattle.std.proofs.Common.{◌≡◌, ◌+◌, ◌-◌, ◌*◌, ◌%◌, ◌^◌, ◌≤◌, mul-le-mul_right, arith}
use Rattle.digits.proofs.Digits.{whole_quotient, whole_remainder}
use Rattle.digits.proofs.reciprocal.MultiplyingDivision.divide.Goals as goal

pub returns-then-rest-modulus-clause-remainder : goal.returns-then-rest-modulus-clause-remainder
returns-then-rest-modulus-clause-remainder c =
    let p = c.args.self.now.modulus in
    let g = c.guess-guess.result in
    let x = c.args.x in
    let rest = (x * 256 + (2 ^ 64 - g * p.number)) % 2 ^ 64 in
    let few : g ≤ 1023 = omega (arith, c.guess-guess.ensures.value) in
    let whole : g * p.number + rest ≡ 256 * x = omega (arith, c.if-rest-modulus.true, mul-le-mul_right p.number few, p.fit.2) in
    whole_remainder p.number (256 * x) g rest whole c.if-rest-modulus.true

pub returns-then-rest-modulus-2 : goal.returns-then-rest-modulus-2
returns-then-rest-modulus-2 c =
    let p = c.args.self.now.modulus in
    let g = c.guess-guess.result in
    let x = c.args.x in
    let rest = (x * 256 + (2 ^ 64 - g * p.number)) % 2 ^ 64 in
    let few : g ≤ 1023 = omega (arith, c.guess-guess.ensures.value) in
    let above : p.number ≤ rest = c.if-rest-modulus.false in
    let whole : (g + 1) * p.number + (rest - p.number) ≡ 256 * x =
    omega (arith, c.if-rest-modulus-2.true, mul-le-mul_right p.number few, p.fit.2) in
    record {
      quotient = whole_quotient p.number (256 * x) (g + 1) (rest - p.number) whole c.if-rest-modulus-2.true;
      remainder = whole_remainder p.number (256 * x) (g + 1) (rest - p.number) whole c.if-rest-modulus-2.true;
    }
