use Rattle.std.proofs.Common.{◌≡◌, true, length, sym, ap, ◌∙◌, subst, arith}
use Rattle.table.specs.Chain.{Contents, every}
use Rattle.table.specs.Fitness.{record_waits}
use Rattle.book.specs.Books.{book}
use Rattle.work.proofs.Waiting.{released_waits, still_waits, positions, tells}
use Rattle.residues.proofs.show_residues.Goals as goal

pub loop-position-init : goal.loop-position-init
loop-position-init c =
    let b = c.release-book.result in (
      released_waits (book b) (subst (λ (t : Contents). every record_waits t.records ≡ true) (sym c.release-book.ensures.same) c.args.listing.waiting),
      positions (book b) b.table.rising ∙ sym c.count-position-end.ensures.value,
    )

pub unwrap-line-requires : goal.unwrap-line-requires
unwrap-line-requires c =
    tells
    (book c.loop-position.book)
    (book c.work_record.new.book)
    c.loop-position.position
    c.work_record.result
    c.work_record.ensures.worked
    c.loop-position.invariant.0
    (omega (arith, c.loop-position.invariant.1, c.loop-position-test.true))

pub loop-position-preserved : goal.loop-position-preserved
loop-position-preserved c =
    let stays = c.work_record.ensures.stays in (
      still_waits (book c.loop-position.book) (book c.work_record.new.book) c.loop-position.position stays c.loop-position.invariant.0,
      ap length stays.chain_is ∙ c.loop-position.invariant.1,
    )
