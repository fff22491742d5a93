use Rattle.table.specs.Tables.{contents}
use Rattle.book.proofs.Waiting.{empty_waits}
use Rattle.book.proofs.listing.Listing.new.Goals as goal

pub invariant_of-result : goal.invariant_of-result
invariant_of-result c = record {
  waiting = empty_waits (contents c.in_ok-table.table) 2 c.in_ok-table.ensures.made;
}
