use Rattle.std.proofs.Common.{sym, ◌∙◌}
use Rattle.table.specs.Tables.{contents}
use Rattle.book.proofs.Lookups.{record_at, unlisted_record}
use Rattle.book.proofs.book.Book.listed.Goals as goal

pub returns-in_err-number : goal.returns-in_err-number
returns-in_err-number c =
    rw c.from_residual.ensures
    (record {
      value = sym (unlisted_record (contents c.args.self.now.table).records c.args.modulus (sym c.in_err-number.ensures.value));
      fit = tt;
    })

pub returns : goal.returns
returns c =
    record {
      value = c.record.ensures.value
          ∙ record_at (contents c.args.self.now.table).records c.args.modulus c.in_ok-number.number (sym c.in_ok-number.ensures.value);
      fit = c.record.ensures.fit;
    }
