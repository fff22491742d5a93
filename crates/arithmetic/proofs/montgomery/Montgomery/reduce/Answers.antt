use Rattle.std.proofs.Common.{◌*◌, ◌/◌, ◌%◌, ◌<◌, arith}
use Rattle.arithmetic.proofs.Halving.{reduced_word, reduced_above, reduced_below, high_below}
use Rattle.arithmetic.proofs.montgomery.Montgomery.reduce.Goals as goal

-- what is taken off the high word is below p
taken_below : (c : goal.Then-high-taken) → (c.args.t % 4294967296 * c.args.self.now.reciprocal % 4294967296) * c.args.self.now.modulus.number / 4294967296 < c.args.self.now.modulus.number
taken_below c =
    high_below c.args.self.now.modulus.number (c.args.t % 4294967296 * c.args.self.now.reciprocal % 4294967296) 4294967296
    (omega (arith, c.args.self.now.modulus.fit.1)) (omega arith) (omega arith)

pub returns-then-high-taken-clause-value : goal.returns-then-high-taken-clause-value
returns-then-high-taken-clause-value c =
    let s = c.args.self.now in
    let p = s.modulus.number in
    let t = c.args.t in
    let m = t % 4294967296 * s.reciprocal % 4294967296 in
    reduced_below p m t 4294967296 _ (reduced_word p s.reciprocal t 4294967296 s.inverts) (omega (arith, taken_below c))

pub returns-else-high-taken-clause-value : goal.returns-else-high-taken-clause-value
returns-else-high-taken-clause-value c =
    let s = c.args.self.now in
    let p = s.modulus.number in
    let t = c.args.t in
    let m = t % 4294967296 * s.reciprocal % 4294967296 in
    reduced_above p m t 4294967296 _ (reduced_word p s.reciprocal t 4294967296 s.inverts) (omega arith)
