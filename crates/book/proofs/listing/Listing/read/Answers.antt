use Rattle.std.proofs.Common.{arith}
use Rattle.table.specs.Tables.{contents}
use Rattle.book.proofs.Files.{read_waits, written_again, found_again}
use Rattle.book.proofs.listing.Listing.read.Goals as goal

pub invariant_of-self : goal.invariant_of-self
invariant_of-self c =
    record {
      waiting = read_waits c.args.bytes.now (contents c.read.new.table) c.read.result c.read.ensures.answer c.read.ensures.after;
    }

pub returns : goal.returns
returns c =
    let xs = c.args.bytes.now in
    let after = contents c.read.new.table in
    record {
      answer = c.read.ensures.answer;
      after = c.read.ensures.after;
      written = written_again xs after c.read.result (λ i. (c.type_inv.bytes i).fits) c.read.ensures.answer c.read.ensures.after;
      found =
          λ l same.
          let t = l.table in
          found_again xs after c.read.result c.read.ensures.answer c.read.ensures.after (contents t) (omega (arith, t.few, t.records.ok.0)) t.stands (t.rising, t.fits, l.waiting) same;
    }
