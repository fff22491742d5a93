use Rattle.std.proofs.Common.{ℕ, length, Some, None, sym, ap, ◌∙◌}
use Rattle.std.proofs.lemmas.Iterator.Consumers.{nth_from_yields_List, YieldsList-from_first}
use Rattle.table.specs.declared.pair.Pair.{Pair}
use Rattle.table.specs.declared.pair.Record.{Record}
use Rattle.table.specs.Walk.{met}
use Rattle.table.proofs.Walks.{met_no_pair, met_some_pair, no_pair_past}
use Rattle.table.proofs.table.chain.Chain.pair_at.Goals as goal

pub returns-then-position-self : goal.returns-then-position-self
returns-then-position-self c =
    record { value = sym (no_pair_past c.args.self.now.first c.args.self.now.records.now c.args.position c.if-position-self.true) }

pub returns-in_err-record : goal.returns-in_err-record
returns-in_err-record c =
    let chain = c.args.self.now in
    let found =
    nth_from_yields_List None c.nth.new.self c.args.position c.in_err-record.ensures.ran
    (YieldsList-from_first (λ x. x) (λ walk. met walk.records.now walk.left walk.next) (met chain.records.now (length chain.records.now) chain.first) cc)
    in
    record { value = c.from_residual.ensures ∙ sym (met_no_pair chain.first chain.records.now c.args.position chain.rising found) }

pub returns : goal.returns
returns c =
    let chain = c.args.self.now in
    let x : ℕ × Record = (c.in_ok-record.field-0-0, c.in_ok-record.record) in
    let found =
    nth_from_yields_List (Some x) c.nth.new.self c.args.position c.in_ok-record.ensures.ran
    (YieldsList-from_first (λ x. x) (λ walk. met walk.records.now walk.left walk.next) (met chain.records.now (length chain.records.now) chain.first) cc)
    in
    record { value = ap (λ (p : Pair). Some p) c.from.ensures ∙ sym (met_some_pair chain.first chain.records.now c.args.position x chain.rising found) }
