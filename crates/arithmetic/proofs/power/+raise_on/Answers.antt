use Rattle.std.proofs.Common.{ℕ, ◌*◌, ◌/◌, ◌%◌, ◌^◌, ap, ◌∙◌, arith}
use Rattle.arithmetic.proofs.Squaring.{square_even, square_odd}
use Rattle.arithmetic.proofs.power.+raise_on.Goals as goal

pub returns-then-left-eq1 : goal.returns-then-left-eq1
returns-then-left-eq1 g t c =
    let w = g.W.Arithmetic in
    let a = c.args.arithmetic.now in
    let p = w.modulus a in
    let x = w.residue a c.args.square in
    let h = c.args.left / 2 in
    record {
      value = c.raise_on.ensures.value
          ∙ ap (λ (y : ℕ). y * w.residue a c.mul-next.result ^ h % p) c.mul-gathered.ensures.value
          ∙ ap (λ (y : ℕ). (w.residue a c.args.gathered * x % p) * y ^ h % p) c.mul-next.ensures.value
          ∙ square_odd p (w.residue a c.args.gathered) x c.args.left c.if-left-eq1.true;
    }

pub returns : goal.returns
returns g t c =
    let w = g.W.Arithmetic in
    let a = c.args.arithmetic.now in
    let p = w.modulus a in
    let x = w.residue a c.args.square in
    let h = c.args.left / 2 in
    record {
      value = c.raise_on-2.ensures.value
          ∙ ap (λ (y : ℕ). w.residue a c.args.gathered * y ^ h % p) c.mul-next.ensures.value
          ∙ square_even p (w.residue a c.args.gathered) x c.args.left (omega (arith, c.if-left-eq1.false));
    }
