use Rattle.std.proofs.Common.{◌*◌, sym, ◌∙◌}
use native.Mathlib.Nat.{mod-mod}
use Rattle.theory.proofs.Modular.{mul-mod}
use Rattle.arithmetic.proofs.plain.PlainArithmetic.mul.Goals as goal

pub returns-clause-value : goal.returns-clause-value
returns-clause-value c =
    let p = c.args.self.now.modulus.number in
    mod-mod (c.args.a.0 * c.args.b.0) p ∙ sym (mul-mod c.args.a.0 c.args.b.0 p)
