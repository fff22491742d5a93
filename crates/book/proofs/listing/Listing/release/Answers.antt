use Rattle.table.specs.Tables.{contents}
use Rattle.book.proofs.Results.{waiting_worked}
use Rattle.book.proofs.listing.Listing.release.Goals as goal

pub invariant_of-result : goal.invariant_of-result
invariant_of-result c = let t = contents c.args.self.table in record {
  worked = waiting_worked t.index t.records c.args.self.waiting;
}
