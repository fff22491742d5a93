use Rattle.std.proofs.Common.{Option, sym, refl, ◌∙◌, subst}
use Rattle.table.specs.declared.pair.Record.{Record}
use Rattle.table.specs.Fitness.{PairFits}
use Rattle.table.specs.Tables.{contents}
use Rattle.book.proofs.Results.{worked_shows}
use Rattle.book.proofs.book.Book.show.Goals as goal

pub returns : goal.returns
returns c =
    let t = contents c.args.self.now.table in
    let r = c.in_ok-found.found in
    let is = c.in_ok-found.ensures.ok_part in
    let found = sym c.listed.ensures.value ∙ is in
    record {
      shown = (r, found, refl, worked_shows t.index t.records c.args.modulus r c.args.self.now.worked found (subst (λ (o : Option Record). PairFits t.index o) is c.listed.ensures.fit));
    }
