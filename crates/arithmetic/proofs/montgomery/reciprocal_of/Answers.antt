use Rattle.std.proofs.Common.{arith}
use Rattle.arithmetic.proofs.Newton.{odd_square}
use Rattle.arithmetic.proofs.montgomery.reciprocal_of.Goals as goal

pub returns : goal.returns
returns c =
    let to-6 = c.closer.ensures.doubled 3 6 (odd_square c.args.p c.requires) (omega arith) (omega arith) (omega arith) in
    let to-12 = c.closer-2.ensures.doubled 6 12 to-6 (omega arith) (omega arith) (omega arith) in
    let to-24 = c.closer-3.ensures.doubled 12 24 to-12 (omega arith) (omega arith) (omega arith) in
    record { value = c.closer-4.ensures.doubled 24 32 to-24 (omega arith) (omega arith) (omega arith) }
