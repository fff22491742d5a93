use Rattle.std.proofs.Common.{ℕ, Option, sym, ◌∙◌, subst}
use Rattle.run.specs.Calls as run-calls
use Rattle.table.specs.declared.pair.Record.{Record}
use Rattle.table.specs.Fitness.{PairFits}
use Rattle.table.specs.Tables.{contents}
use Rattle.book.proofs.Refusals.{opened}
use Rattle.book.proofs.book.Book.open.Goals as goal

pub returns : goal.returns
returns c =
    let t = contents c.args.self.now.table in
    let r = c.in_ok-record.record in
    let is = c.in_ok-record.ensures.ok_part in
    record {
      opened =
          opened t c.args.kind c.args.modulus r (sym c.listed.ensures.value ∙ is) (sym c.if-is_some.ensures)
          (subst (λ (o : Option Record). PairFits t.index o) is c.listed.ensures.fit) c.open.result
          (subst (λ (k : ℕ). run-calls.Opened c.args.kind k r.modulus r.generator c.open.result) c.index.ensures.value c.open.ensures.opened);
    }
