use Rattle.std.proofs.Common.{◌≡◌, ℕ, ◌*◌, ◌%◌, ap, ◌∙◌, ap₂, arith}
use Rattle.theory.specs.Doubling.{row_length_of}
use Rattle.run.proofs.WalkSteps.{row_point_under, walk_turned}
use Rattle.run.proofs.walk.RowWalk.turn.Goals as goal

pub times-row_point-requires : goal.times-row_point-requires
times-row_point-requires g c =
    let walk = c.args.self.now in
    let rows = walk.rows in
    let under = row_point_under rows.modulus rows.generator rows.index rows.fit.0 walk.walking in
    record { below = omega (arith, under, rows.modulus_is) }

pub invariant_of-self : goal.invariant_of-self
invariant_of-self g c =
    let walk = c.args.self.now in
    let rows = walk.rows in
    let residue = g.W.Arithmetic.residue rows.arithmetic.now in
    let end : walk.place ≡ row_length_of rows.modulus = omega (arith, c.if-self.false, rows.length_is, walk.walking.within) in
    record {
      walking = walk_turned rows.modulus rows.generator rows.index rows.fit.0 (residue rows.stride) _ _ walk.walking rows.stride_is end
          (c.times-row_point.ensures.remainder ∙ ap₂ (λ (a b : ℕ). a * walk.row_point % b) rows.factor_is rows.modulus_is)
          (c.mul-row_weight.ensures.value ∙ ap (λ (m : ℕ). residue walk.row_weight * residue rows.stride % m) rows.same);
    }
