use Rattle.table.specs.Tables.{contents}
use Rattle.book.proofs.Waiting.{entered_waits}
use Rattle.book.proofs.listing.Listing.enter.Goals as goal

pub invariant_of-self : goal.invariant_of-self
invariant_of-self c = record {
  waiting = entered_waits (contents c.args.self.now.table) (contents c.enter.new.self) c.args.modulus c.args.generator c.enter.result c.enter.ensures.after c.args.self.now.waiting;
}
