use Rattle.std.proofs.Common.{Some, None, Option, Result, sym, refl, subst}
use Rattle.arithmetic.specs.declared.refusal.Refusal.{Refusal}
use Rattle.run.specs.declared.finished.FinishedResidue.{FinishedResidue}
use Rattle.table.specs.declared.pair.Pair.{Pair}
use Rattle.book.specs.Books.{book, FilledIn}
use Rattle.work.specs.Lines.{waiting_at, WorkedAt}
use Rattle.work.proofs.Working.{worked, filled_already, stays}
use Rattle.work.proofs.records.work_record.Goals as goal

-- nothing is told and nothing changed
unworked : (c : goal.In_default) → WorkedAt (book c.args.book.now) (book c.args.book.now) (waiting_at (book c.args.book.now) c.args.position) None
unworked c =
    let b = c.args.book.now in
    let t = book b in
    subst (λ (o : Option Pair). WorkedAt t t o None)
    (sym (filled_already t b.table.rising c.args.position c.in_ok-pair.pair (sym c.in_ok-pair.ensures.value) c.in_default.field-0 c.in_default.ensures.opened))
    (refl, refl)

pub returns-in_default : goal.returns-in_default
returns-in_default c =
    let b = c.args.book.now in
    record { worked = unworked c; stays = stays (book b) (book b) c.args.position None b.table.rising (unworked c) }

-- the record is worked
filled_in : (c : goal.After-unwrap)
    → WorkedAt (book c.args.book.now) (book c.fill.new.self) (waiting_at (book c.args.book.now) c.args.position) (Some c.residue_line-line.result)
filled_in c =
    let b = c.args.book.now in
    let t = book b in
    let after = book c.fill.new.self in
    let f = c.work_run-finished.result in
    worked t b.table.rising c.args.position c.in_ok-pair.pair (sym c.in_ok-pair.ensures.value) after c.in-Ok.run' f c.residue_line-line.result c.unwrap.result
    c.in-Ok.ensures.opened
    c.work_run-finished.ensures.result
    c.residue_line-line.ensures.value
    (subst (λ (r : Result (Unit {0}) (Refusal × FinishedResidue)). FilledIn t after f r) c.unwrap.ensures c.fill.ensures.filled)

pub returns : goal.returns
returns c =
    let b = c.args.book.now in
    record {
      worked = filled_in c;
      stays = stays (book b) (book c.fill.new.self) c.args.position (Some c.residue_line-line.result) b.table.rising (filled_in c);
    }
