use Rattle.std.proofs.Common.{◌<◌, arith}
use Rattle.arithmetic.proofs.Halving.{brought_word, brought_residue, brought_below}
use Rattle.arithmetic.proofs.montgomery.MontgomeryArithmetic.bring_in.Goals as goal

pub returns : goal.returns
returns c =
    let s = c.args.self.now in
    let p = s.modulus.number in
    let n = c.args.n in
    let positive : 0 < p = omega (arith, s.modulus.fit.1) in
    let below = c.reduce.ensures.word (brought_below p n s.square positive (omega arith) s.squared) in
    let word = brought_word p n s.square c.reduce.result s.modulus.fit.0 s.squared c.reduce.ensures.value below in
    record { value = brought_residue p n c.reduce.result s.modulus.fit.0 word; word = word }
