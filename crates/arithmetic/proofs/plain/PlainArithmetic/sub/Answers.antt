use Rattle.std.proofs.Common.{◌+◌, ◌-◌, ◌%◌, sym, ◌∙◌}
use native.Mathlib.Nat.{mod-mod, mod-add-mod}
use Rattle.theory.proofs.Modular.{minus-mod}
use Rattle.arithmetic.proofs.plain.PlainArithmetic.sub.Goals as goal

pub returns-clause-value : goal.returns-clause-value
returns-clause-value c =
    let p = c.args.self.now.modulus.number in
    let a = c.args.a.0 in
    let b = c.args.b.0 in
    mod-mod (a + (p - b % p)) p ∙ sym (mod-add-mod a p (p - b % p)) ∙ sym (minus-mod p a b)
