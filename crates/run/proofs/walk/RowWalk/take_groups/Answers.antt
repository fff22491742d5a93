use Rattle.std.proofs.Common.{ℕ, ◌+◌, ◌*◌, ◌%◌, sym, ap, ◌∙◌, add_assoc, arith}
use native.Mathlib.Nat.{add-mod-mod}
use Rattle.run.specs.Counting.{weighed}
use Rattle.run.specs.Stretches.{stretch}
use Rattle.run.proofs.RowTerms.{stretch_counts}
use Rattle.run.proofs.WalkSteps.{point_under, walk_on}
use Rattle.run.proofs.walk.RowWalk.take_groups.Goals as goal

pub take_groups-self-requires-clause-below : goal.take_groups-self-requires-clause-below
take_groups-self-requires-clause-below g c =
    let walk = c.args.self.now in
    let rows = walk.rows in
    point_under rows.modulus rows.generator rows.index rows.fit.0 walk.walking

pub invariant_of-self : goal.invariant_of-self
invariant_of-self g c =
    let walk = c.args.self.now in
    let rows = walk.rows in
    let counted = c.take_groups-self.ensures.counted in
    record {
      walking = walk_on rows.modulus rows.generator rows.index rows.fit.0 (8 * c.args.groups) (g.W.Arithmetic.residue rows.arithmetic.now rows.ratio) _ _
          walk.walking rows.ratio_is c.requires.row counted.point_is counted.weight_is;
    }

pub returns-clause-counted : goal.returns-clause-counted
returns-clause-counted g c s summed =
    let walk = c.args.self.now in
    let rows = walk.rows in
    let p = rows.modulus in
    let n = 8 * c.args.groups in
    let residue = g.W.Arithmetic.residue rows.arithmetic.now in
    let r = residue rows.ratio in
    let x = walk.next.point in
    let v = residue walk.next.weight in
    let at = walk.walking in
    let before = weighed p r 8 c.args.cells.now in
    sym (add-mod-mod s (weighed p r 8 c.take_groups-self.new.cells) p)
    ∙ ap (λ (m : ℕ). (s + m) % p) c.take_groups-self.ensures.counted.sum_is
    ∙ add-mod-mod s (before + stretch p r x v n) p
    ∙ ap (λ (m : ℕ). m % p) (sym (add_assoc s before (stretch p r x v n)))
    ∙ stretch_counts p rows.generator rows.index _ walk.place walk.taken n r x v s before (omega (arith, rows.fit.0.1)) at.taken_is c.requires.row rows.ratio_is
    at.point_is at.weight_is summed
