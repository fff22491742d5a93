use Rattle.std.proofs.Common.{◌/◌, ◌^◌, subst, sym, arith, ℕ, ◌*◌}
use Rattle.digits.specs.Guesses.{Near}
use Rattle.digits.proofs.Digits.{guess_near}
use Rattle.digits.proofs.reciprocal.Source+Multiplying.guess.Goals as goal

pub returns-clause-near : goal.returns-clause-near
returns-clause-near c under =
    let modulus = c.args.self.now.division.modulus in
    let p = modulus.number in
    let x = c.args.x in
    subst (λ (guess : ℕ). Near (256 * x / p) guess) (sym c.guess.ensures.value)
    (guess_near p 62 8 x (2 ^ 64) (omega (arith, modulus.fit.1)) (omega arith) under (omega (arith, modulus.fit.2)) (omega arith))
