use Rattle.std.proofs.Common.{◌≡◌, ℕ, ◌+◌, ◌/◌, ◌%◌, List, sym, ap, ◌∙◌, subst, mod-lt, arith, replicate}
use Rattle.std.proofs.lemmas.List.{length-replicate}
use Rattle.theory.specs.Doubling.{row_length_of, doubling_sum}
use Rattle.run.specs.Counting.{weighed, groups_of}
use Rattle.run.proofs.GroupTerms.{Tally, tally_none, tally_room, tally_more, weighed_zeroes, zeroes_made, groups_none}
use Rattle.run.proofs.RowTerms.{rows_have_places, row_of}
use Rattle.run.proofs.WalkSteps.{reached_by, alone_summed}
use Rattle.run.proofs.share.Share.take_counted.Goals as goal

pub loop-left-init : goal.loop-left-init
loop-left-init g c =
    let run = c.args.self.now.run.now in
    let residue = g.W.Arithmetic.residue c.args.self.now.arithmetic.now in
    let d = g.S.DigitSource in
    let p = run.modulus in
    let n = row_length_of p in
    let begun = c.begin-walk.ensures in
    let walk = c.begin-walk.result in
    let cells : List ℕ = replicate 256 0 in
    let taken-is = rw (begun.modulus) at walk.walking.taken_is in
    let here : run.taken % n ≡ walk.place = (row_of n _ walk.place run.taken (sym begun.taken ∙ taken-is) begun.inside).1 in
    let empty : weighed p (residue walk.rows.ratio) 8 cells ≡ 0 = weighed_zeroes p (residue walk.rows.ratio) 8 cells (zeroes_made 256) in (
      begun.arithmetic,
      begun.index,
      begun.modulus,
      begun.generator,
      record {
        inside = begun.inside;
        whole = omega (arith, begun.taken);
        summed =
            ap (λ (m : ℕ). (residue walk.next.sum + m) % p) empty
            ∙ alone_summed p run.generator run.index walk.taken _ (omega (arith, run.fit.0.1)) (begun.sum ∙ ap (doubling_sum p run.generator run.index) (sym begun.taken));
      },
      (
        0,
        subst (λ (j : ℕ). Tally p n walk.place c.args.self.now.terms c.args.self.now.terms (groups_of 8 n j c.args.self.now.terms) cells (d.modulus c.args.source.now) (d.taken c.args.source.now) (d.taken c.args.source.now) 0) (sym here)
            (tally_none p n walk.place c.args.self.now.terms cells (d.modulus c.args.source.now) (d.taken c.args.source.now) (length-replicate {A = ℕ} 256 0) c.requires.source
            (g.met.S.DigitSource.bounded c.args.source.now) (zeroes_made 256)),
      ),
    )

pub take_groups-requires-clause-room : goal.take_groups-requires-clause-room
take_groups-requires-clause-room g c =
    let run = c.args.self.now.run.now in
    let inv = c.loop-left.invariant in
    let walk = c.loop-left.walk in
    let stretch = c.in_row-stretch.result in
    rw inv.2
    (tally_room run.modulus (row_length_of run.modulus) walk.place c.loop-left.left c.args.self.now.terms _ stretch c.loop-left.cells _ _ _ inv.5.0 inv.5.1
    run.fit.0.2 c.requires.few (omega (arith, c.in_row-stretch.ensures.value)))

pub loop-left-preserved : goal.loop-left-preserved
loop-left-preserved g c =
    let run = c.args.self.now.run.now in
    let residue = g.W.Arithmetic.residue c.args.self.now.arithmetic.now in
    let p = run.modulus in
    let n = row_length_of p in
    let inv = c.loop-left.invariant in
    let at = inv.4 in
    let walk = c.loop-left.walk in
    let groups = c.take_groups.ensures in
    let single = c.take_singly.ensures in
    let stretch = c.in_row-stretch.result in
    let least = rw (inv.2) at c.in_row-stretch.ensures.value in
    let cells = c.take_groups.new.cells in
    let full = weighed p (residue walk.rows.ratio) 8 cells in
    let counted = rw (inv.0, inv.1, inv.2, inv.3) at groups.counted in
    let walked = rw (groups.rows, inv.0, inv.1, inv.2, inv.3) at single.sum in
    let turned = rw (groups.rows, inv.2) at single.place in
    let place : c.take_singly.new.self.place ≡ (walk.place + stretch) % n =
    turned ∙ ap (λ (m : ℕ). m % n) (omega (arith, groups.place)) in
    let room = rw (inv.2) at groups.room in
    rw (single.rows, groups.rows) (
      inv.0,
      inv.1,
      inv.2,
      inv.3,
      record {
        inside = omega (arith, place, mod-lt (walk.place + stretch) (rows_have_places p run.fit.0));
        whole = omega (arith, single.taken, groups.taken, at.whole, least);
        summed =
            walked full
            (ap (λ (e : g.row.W-Element.Denot). (residue e + full) % p) groups.sum
            ∙ counted (residue walk.next.sum) at.summed
            ∙ ap (doubling_sum p run.generator run.index) (sym groups.taken))
            ∙ ap (doubling_sum p run.generator run.index) (sym single.taken);
      },
      (
        inv.5.0 + stretch / 8,
        tally_more p n walk.place c.loop-left.left c.args.self.now.terms _ stretch c.loop-left.cells cells _ _ _ _ _ inv.5.0 c.take_singly.new.self.place inv.5.1
            at.inside least place (c.take_groups.array_long ∙ sym inv.5.1.long) groups.source.0 groups.source.1 room,
      ),
    )

pub returns-clause-reached : goal.returns-clause-reached
returns-clause-reached g c =
    let run = c.args.self.now.run.now in
    let inv = c.loop-left.invariant in
    let walk = c.loop-left.walk in
    let counted = c.add_counted.ensures in
    let ended = rw (counted.rows, inv.0) at c.end.ensures.sum in
    let added = rw (inv.0, inv.2) at counted.sum in
    let all : walk.taken ≡ run.taken + c.args.self.now.terms = omega (arith, inv.4.whole, c.loop-left-test.false) in
    reached_by run c.args.from walk.taken c.args.self.now.terms _ _ c.requires.place all (ended ∙ added ∙ inv.4.summed)
    (rw (counted.rows, counted.taken, inv.1, inv.2, inv.3) at c.end.ensures.place)

pub returns-clause-source : goal.returns-clause-source
returns-clause-source g c =
    let run = c.args.self.now.run.now in
    let n = row_length_of run.modulus in
    let place = c.loop-left.walk.place in
    let tally = c.loop-left.invariant.5.1 in
    let none : c.loop-left.left ≡ 0 = omega (arith, c.loop-left-test.false) in
    (tally.source_is ∙ sym c.requires.source, omega (arith, tally.count_is, tally.whole, groups_none 8 n place, ap (groups_of 8 n place) none))
