use Rattle.theory.proofs.Modular.{inverse-mod}
use Rattle.published.proofs.numeral.fraction_residue.Goals as goal

pub returns : goal.returns
returns g c =
    let p = g.W.Arithmetic.modulus c.args.arithmetic.now in
    let inverted = inverse-mod p c.args.denominator in
    record { value = cc }
