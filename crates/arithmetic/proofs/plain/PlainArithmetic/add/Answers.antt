use Rattle.std.proofs.Common.{◌+◌, ◌∙◌}
use native.Mathlib.Nat.{add-mod, mod-mod}
use Rattle.arithmetic.proofs.plain.PlainArithmetic.add.Goals as goal

pub returns-clause-value : goal.returns-clause-value
returns-clause-value c =
    let p = c.args.self.now.modulus.number in
    mod-mod (c.args.a.0 + c.args.b.0) p ∙ add-mod c.args.a.0 c.args.b.0 p
