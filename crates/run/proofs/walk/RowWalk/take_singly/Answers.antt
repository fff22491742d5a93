use Rattle.std.proofs.Common.{ℕ, ◌+◌, ◌*◌, ◌%◌, ◌^◌, ap, ◌∙◌, arith}
use Rattle.run.specs.Stretches.{stretch}
use Rattle.run.proofs.RowTerms.{stretch_grows}
use Rattle.run.proofs.WalkSteps.{point_under, walk_on}
use Rattle.run.proofs.walk.RowWalk.take_singly.Goals as goal

pub take_stretch-self-requires : goal.take_stretch-self-requires
take_stretch-self-requires g c =
    let walk = c.args.self.now in
    let rows = walk.rows in
    record { below = omega (arith, point_under rows.modulus rows.generator rows.index rows.fit.0 walk.walking, rows.same) }

pub invariant_of-self : goal.invariant_of-self
invariant_of-self g c =
    let walk = c.args.self.now in
    let rows = walk.rows in
    let residue = g.W.Arithmetic.residue rows.arithmetic.now in
    let n = c.args.terms in
    let r = residue rows.ratio in
    let stretched = c.take_stretch-self.ensures in
    record {
      walking = walk_on rows.modulus rows.generator rows.index rows.fit.0 n r _ _ walk.walking rows.ratio_is c.requires.room
          (stretched.point ∙ ap (λ (m : ℕ). 2 ^ n * walk.next.point % m) rows.same)
          (stretched.weight ∙ ap (λ (m : ℕ). residue walk.next.weight * r ^ n % m) rows.same);
    }

pub returns-clause-sum : goal.returns-clause-sum
returns-clause-sum g c =
    let walk = c.args.self.now in
    let rows = walk.rows in
    let residue = g.W.Arithmetic.residue rows.arithmetic.now in
    let n = c.args.terms in
    let r = residue rows.ratio in
    let at = walk.walking in
    rw c.turn.ensures.sum
    (stretch_grows rows.modulus rows.generator rows.index _ walk.place walk.taken n r walk.next.point (residue walk.next.weight) (residue walk.next.sum) _
    (omega (arith, rows.fit.0.1)) at.taken_is c.requires.room rows.ratio_is at.point_is at.weight_is
    (c.take_stretch-self.ensures.sum ∙ ap (λ (m : ℕ). (residue walk.next.sum + stretch m r walk.next.point (residue walk.next.weight) n) % m) rows.same))
