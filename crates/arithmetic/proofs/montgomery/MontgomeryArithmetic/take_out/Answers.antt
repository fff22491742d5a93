use Rattle.std.proofs.Common.{sym, ◌∙◌, mod-eq_of_lt, arith}
use Rattle.arithmetic.proofs.Halving.{halved_of}
use Rattle.arithmetic.proofs.montgomery.MontgomeryArithmetic.take_out.Goals as goal

pub returns : goal.returns
returns c =
    let s = c.args.self.now in
    let small = c.reduce.ensures.word (omega (arith, s.modulus.fit.1)) in
    record {
      value = sym (mod-eq_of_lt small) ∙ sym (halved_of s.modulus.number c.reduce.result c.args.e.0 s.modulus.fit.0 c.reduce.ensures.value);
    }
