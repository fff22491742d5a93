use Rattle.std.proofs.Common.{ℕ, ◌+◌, ◌-◌, ◌*◌, ◌/◌, ◌<◌, ◌≤◌, mul-le-mul_right, le_of_mul-le-mul_right, arith}
use Rattle.run.specs.declared.multiplier.Multiplier.{Multiplier}
use Rattle.run.proofs.Quotients.{guess_low, guess_high, divided}
use Rattle.run.proofs.multiplier.Multiplier.times.Goals as goal

guess : Multiplier → ℕ → ℕ
guess m x = m.scaled * x / 4294967296

low : (m : Multiplier) (x : ℕ) → x < m.modulus → guess m x * m.modulus ≤ m.factor * x
unfolding guess
low m x under = guess_low m.factor x m.modulus 4294967296 m.scaled m.whole (omega arith) (omega arith)

high : (m : Multiplier) (x : ℕ) → x < m.modulus → m.factor * x < guess m x * m.modulus + (m.modulus + m.modulus)
unfolding guess
high m x under =
    let bound = m.high in
    guess_high m.factor x m.modulus 4294967296 m.scaled m.whole (omega arith) (omega arith) (omega arith)

pub overflow_sub-rest : goal.overflow_sub-rest
unfolding guess
overflow_sub-rest c = low c.args.self.now c.args.x c.requires.below

pub overflow_cast-result-else-rest-p : goal.overflow_cast-result-else-rest-p
unfolding guess
overflow_cast-result-else-rest-p c =
    let m = c.args.self.now in
    let x = c.args.x in
    let p = m.modulus in
    let q = guess m x in
    let smaller : m.factor ≤ p = omega (arith, m.below) in
    let product : m.factor * x ≤ p * x = mul-le-mul_right x smaller in
    let more : (q + 1) * p ≤ x * p = omega (arith, c.if-rest-p.false, low m x c.requires.below) in
    let bound : q + 1 ≤ x = le_of_mul-le-mul_right more (omega (arith, m.below)) in
    omega (arith, c.requires.below, m.high)

pub overflow_cast-result-else-rest-p-2 : goal.overflow_cast-result-else-rest-p-2
unfolding guess
overflow_cast-result-else-rest-p-2 c =
    let m = c.args.self.now in
    omega (arith, high m c.args.x c.requires.below, m.high)

pub returns-then-rest-p : goal.returns-then-rest-p
unfolding guess
returns-then-rest-p c =
    let m = c.args.self.now in
    let x = c.args.x in
    let q = guess m x in
    let r = divided q (m.factor * x - q * m.modulus) m.modulus (m.factor * x) (omega (arith, low m x c.requires.below)) c.if-rest-p.true in
    record { quotient = r.0; remainder = r.1 }

pub returns-else-rest-p : goal.returns-else-rest-p
unfolding guess
returns-else-rest-p c =
    let m = c.args.self.now in
    let x = c.args.x in
    let q = guess m x in
    let p = m.modulus in
    let r = divided (q + 1) (m.factor * x - q * p - p) p (m.factor * x) (omega (arith, low m x c.requires.below, c.if-rest-p.false)) (omega (arith, high m x c.requires.below, c.if-rest-p.false)) in
    record { quotient = r.0; remainder = r.1 }
