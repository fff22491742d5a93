use Rattle.std.proofs.Common.{◌≡◌, ℕ, ◌-◌, ◌/◌, ◌%◌, ◌^◌, sym, ap, ◌∙◌, arith}
use native.Mathlib.Nat.{mod-mod}
use Rattle.digits.specs.Digits.{digit}
use Rattle.run.specs.Counting.{sign_sum}
use Rattle.theory.specs.Residues.{signed}
use Rattle.run.proofs.Signs.{bit_of, signs_none, signs_to, sign_plus, sign_minus}
use Rattle.run.proofs.gather.sum_signs.Goals as goal
use Rattle.run.proofs.gather.sum_signs.Goals.{then-number-u-eq1, else-number-u-eq1}

pub loop-u-init : goal.loop-u-init
loop-u-init g c r powers =
    let w = g.W.Arithmetic in
    let a = c.args.arithmetic.now in
    signs_none (w.modulus a) _ (λ i. signed (w.modulus a) (digit 8 i c.args.number) (r ^ i)) c.bring_in-sum.ensures.value

pub loop-u-preserved : goal.loop-u-preserved
loop-u-preserved g c r powers =
    let w = g.W.Arithmetic in
    let a = c.args.arithmetic.now in
    let m = w.modulus a in
    let u = c.loop-u.u in
    let number = c.args.number in
    let bit = bit_of (number / 2 ^ (7 - u)) in
    let term : w.residue a c.bring_in-term.result ≡ r ^ u % m =
    c.bring_in-term.ensures.value ∙ ap (λ (n : ℕ). n % m) (powers u c.loop-u-test.true) ∙ mod-mod (r ^ u) m in
    elim c.if-number-u-eq1.branch [
      | then-number-u-eq1 way ↦
          ap (λ (e : g.row.W-Element.Denot). w.residue a e) way.sum-is
          ∙ sign_minus m r 8 number u (w.residue a c.loop-u.sum) (w.residue a c.bring_in-term.result) _ (omega (arith, (g.met.W.Arithmetic.fit a).1))
          (sym bit ∙ way.if-number-u-eq1.true) (c.loop-u.invariant r powers) term way.sub-sum.ensures.value
      | else-number-u-eq1 way ↦
          ap (λ (e : g.row.W-Element.Denot). w.residue a e) way.sum-is
          ∙ sign_plus m r 8 number u (w.residue a c.loop-u.sum) (w.residue a c.bring_in-term.result) _
          (omega (arith, bit, way.if-number-u-eq1.false)) (c.loop-u.invariant r powers) term way.add-sum.ensures.value
    ]

pub returns : goal.returns
unfolding sign_sum
returns g c =
    let m = g.W.Arithmetic.modulus c.args.arithmetic.now in
    let all : c.loop-u.u ≡ 8 = omega (arith, c.loop-u-test.false, c.loop-u.auto.u-end) in
    record { value = λ r powers. c.loop-u.invariant r powers ∙ ap (λ (n : ℕ). signs_to m r 8 c.args.number n % m) all }
