use Rattle.std.proofs.Common.{◌*◌, ◌/◌, ◌%◌, ◌<◌, div-lt_iff_lt-mul, arith}
use Rattle.run.proofs.multiplier.Multiplier.new.Goals as goal

pub overflow_cast-scaled-3 : goal.overflow_cast-scaled-3
overflow_cast-scaled-3 c =
    let f = c.args.factor in
    let p = c.args.modulus in
    let below = c.requires.below in
    let small : f * 4294967296 % 18446744073709551616 < 4294967296 * p = omega arith in
    let quotient : f * 4294967296 % 18446744073709551616 / p < 4294967296 =
    (div-lt_iff_lt-mul {k = p} {x = f * 4294967296 % 18446744073709551616} {y = 4294967296} (omega arith)).1 small in
    omega arith
