use Rattle.std.proofs.Common.{◌≡◌, ℕ, ◌+◌, ◌-◌, ◌*◌, ◌/◌, ◌%◌, ◌<◌, ap, ◌∙◌, mod-lt, arith}
use native.Mathlib.Nat.{mod-add-div, mul-mod_right}
use Rattle.arithmetic.proofs.montgomery.Montgomery.opposite.Goals as goal

pub returns-else-word-p : goal.returns-else-word-p
returns-else-word-p c =
    let p = c.args.self.now.modulus.number in
    let word = c.args.word in
    let rest : word % p < p = mod-lt word (omega (arith, c.args.self.now.modulus.fit.1)) in
    let whole : p - word % p + word ≡ p * (1 + word / p) = omega (arith, mod-add-div word p) in
    record { value = ap (λ (y : ℕ). y % p) whole ∙ mul-mod_right p (1 + word / p) }
