use Rattle.std.proofs.Common.{◌≡◌, ◌+◌, ◌/◌, ◌<◌, ◌≤◌, ℤ, pos, ◌-ℤ◌, arith, w32, w64, to_z, of_z}
use borrow.Author.Differences.{up, down, ints}
use Rattle.arithmetic.specs.Words.{remainder}
use Rattle.arithmetic.proofs.Signed.{remainder_words, remainder_same, remainder_less, remainder_under}
use Rattle.arithmetic.proofs.balanced.Balanced.settle.Goals as goal

pub returns-then-rest-modulus-clause-value : goal.returns-then-rest-modulus-clause-value
returns-then-rest-modulus-clause-value c =
    let p = c.args.self.now.modulus.number in
    let n = c.args.n in
    let positive : 0 < p = omega (arith, c.args.self.now.modulus.fit.1) in
    let small : p < 2147483648 = omega (arith, c.args.self.now.modulus.fit.2) in
    let under : remainder p n < p = remainder_under p n positive in
    let rest : c.rem_euclid-rest.result ≡ pos (remainder p n) =
    remainder_words p n c.rem_euclid-rest.result (omega arith) c.ranges.n c.rem_euclid-rest.ensures.value in
    let z : ℤ = to_z w32 (of_z w32 (to_z w64 (of_z w64 (to_z w64 (of_z w64 c.rem_euclid-rest.result) -ℤ to_z w64 p)))) in
    let above : p / 2 < remainder p n = omega (arith, ints, c.if-rest-modulus.true) in
    let less : up z + p ≡ remainder p n + down z = omega (arith, ints) in
    remainder_less p n z positive less

pub returns-else-rest-modulus-clause-value : goal.returns-else-rest-modulus-clause-value
returns-else-rest-modulus-clause-value c =
    let p = c.args.self.now.modulus.number in
    let n = c.args.n in
    let positive : 0 < p = omega (arith, c.args.self.now.modulus.fit.1) in
    let small : p < 2147483648 = omega (arith, c.args.self.now.modulus.fit.2) in
    let under : remainder p n < p = remainder_under p n positive in
    let rest : c.rem_euclid-rest.result ≡ pos (remainder p n) =
    remainder_words p n c.rem_euclid-rest.result (omega arith) c.ranges.n c.rem_euclid-rest.ensures.value in
    let z : ℤ = to_z w32 (of_z w32 (to_z w64 (of_z w64 c.rem_euclid-rest.result))) in
    let most : remainder p n ≤ p / 2 = omega (arith, ints, c.if-rest-modulus.false) in
    let same : z ≡ pos (remainder p n) = omega (arith, ints) in
    remainder_same p n z positive same
