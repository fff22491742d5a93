use Rattle.std.proofs.Common.{◌≡◌, ℕ, ◌%◌, Bool, sym, ap, ◌∙◌, ap₂}
use native.Mathlib.Nat.{mod-mod}
use Rattle.theory.specs.Residues.{minus}
use Rattle.theory.proofs.Modular.{minus-mod}
use Rattle.published.specs.Numerals.{spelled, signed_residue}
use Rattle.published.proofs.numeral.signed_residue.Goals as goal

-- the residue of the size that was brought in
size_is : (p n size r : ℕ) → r ≡ size % p → size ≡ n % p → r ≡ n % p
size_is p n size r brought told = brought ∙ ap (λ (m : ℕ). m % p) told ∙ mod-mod n p

pub returns-then-negative : goal.returns-then-negative
returns-then-negative g c =
    let p = g.W.Arithmetic.modulus c.args.arithmetic.now in
    let n = spelled 0 c.args.digits.now in
    let zero_is = c.bring_in.ensures.value in
    let size = size_is p n c.digits_residue.result _ c.bring_in-size.ensures.value c.digits_residue.ensures.value in
    record {
      value =
          c.sub.ensures.value
          ∙ ap₂ (minus p) zero_is size
          ∙ minus-mod p 0 n
          ∙ ap (λ (b : Bool). signed_residue p b c.args.digits.now) (sym c.if-negative.true);
    }

pub returns-else-negative : goal.returns-else-negative
returns-else-negative g c =
    let p = g.W.Arithmetic.modulus c.args.arithmetic.now in
    let n = spelled 0 c.args.digits.now in
    record {
      value =
          size_is p n c.digits_residue.result _ c.bring_in-size.ensures.value c.digits_residue.ensures.value
          ∙ ap (λ (b : Bool). signed_residue p b c.args.digits.now) (sym c.if-negative.false);
    }
