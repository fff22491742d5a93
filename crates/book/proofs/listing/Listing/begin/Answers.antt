use Rattle.std.proofs.Common.{is_ok}
use Rattle.table.specs.Tables.{contents}
use Rattle.book.proofs.Waiting.{begun_waits}
use Rattle.book.proofs.listing.Listing.begin.Goals as goal

pub invariant_of-self : goal.invariant_of-self
invariant_of-self c = record {
  waiting = begun_waits (is_ok c.begin.result) (contents c.args.self.now.table) (contents c.begin.new.self) c.args.index c.begin.ensures.after c.args.self.now.waiting;
}
