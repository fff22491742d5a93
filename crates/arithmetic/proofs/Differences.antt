-- Differences of residues, told by sums.
-- Main statements: minus_of_sum, with_opposite.
-- Assumes nothing.
use Rattle.std.proofs.Common.{◌≡◌, ℕ, ◌+◌, ◌-◌, ◌*◌, ◌/◌, ◌%◌, ◌<◌, sym, ap, ◌∙◌, add-zero, add_assoc, mod-lt, mod-eq_of_lt, arith}
use native.Mathlib.Nat.{add-mul-mod_self_left, add-mod-mod, mod-add-mod, mod-add-div}
use Rattle.theory.specs.Residues.{minus}

-- what with b gives a is a − b
pub minus_of_sum : (p r a b : ℕ) → 0 < p → r < p → (r + b) % p ≡ a % p → r ≡ minus p a b
minus_of_sum p r a b positive under same =
    let rest : b % p < p = mod-lt b positive in
    let whole : r + b + (p - b % p) ≡ r + p * (b / p + 1) = omega (arith, mod-add-div b p) in
    sym (ap (λ (y : ℕ). (y + (p - b % p)) % p) (sym same)
    ∙ mod-add-mod (r + b) p (p - b % p)
    ∙ ap (λ (y : ℕ). y % p) whole
    ∙ add-mul-mod_self_left r p (b / p + 1)
    ∙ mod-eq_of_lt under)

-- with its opposite a word is gone
pub with_opposite : (p r a b o : ℕ) → r % p ≡ (a + o) % p → (o + b) % p ≡ 0 → (r + b) % p ≡ a % p
with_opposite p r a b o same gone =
    sym (mod-add-mod r p b)
    ∙ ap (λ (y : ℕ). (y + b) % p) same
    ∙ mod-add-mod (a + o) p b
    ∙ ap (λ (y : ℕ). y % p) (add_assoc a o b)
    ∙ sym (add-mod-mod a (o + b) p)
    ∙ ap (λ (y : ℕ). (a + y) % p) gone
    ∙ ap (λ (y : ℕ). y % p) (add-zero a)
