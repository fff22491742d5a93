use Rattle.std.proofs.Common.{ℕ, ◌-◌, ◌%◌, ◌^◌, ap, ◌∙◌}
use Rattle.theory.specs.Residues.{inverse}
use Rattle.arithmetic.proofs.power.invert.Goals as goal

pub returns : goal.returns
unfolding inverse
returns g c =
    let w = g.W.Arithmetic in
    let a = c.args.arithmetic.now in
    record {
      value = c.raise.ensures.value
          ∙ ap (λ (m : ℕ). w.residue a c.args.a ^ (m - 2) % w.modulus a) c.modulus.ensures.value;
    }
