use Rattle.std.proofs.Common.{rules, ◌≡◌, ℕ, List, length, None, sym, ap, ◌∙◌}
use borrow.Author.Tests.{tests}
use Rattle.std.specs.Option.{option_map_or}
use Rattle.std.specs.List.{take_while, last_or}
use Rattle.std.proofs.lemmas.List.{map-id}
use Rattle.std.proofs.lemmas.Iterator.{items_from_drains}
use Rattle.std.proofs.lemmas.Iterator.Consumers.{YieldsList-from_first}
use Rattle.std.proofs.lemmas.Iterator.Search.{YieldsList-from_take_while}
use Rattle.table.specs.declared.pair.Record.{Record}
use Rattle.table.specs.Walk.{met}
use Rattle.table.proofs.Walks.{below, place_met}
use Rattle.table.proofs.table.chain.Chain.place_of.Goals as goal

pub returns : goal.returns
returns c =
    let chain = c.args.self.now in
    let all = met chain.records.now (length chain.records.now) chain.first in
    let ran = c.last.ensures.ran in
    let came = items_from_drains ran.0 (ran.1.1.0, ran.1.1.1, λ _. (ran.1.0, ran.1.1.2))
    (YieldsList-from_take_while _ (below c.args.modulus)
    (YieldsList-from_first (λ x. x) (λ walk. met walk.records.now walk.left walk.next) all cc)
    c.take_while.ensures.closure c.take_while.ensures.done (λ x b q k. search (rules, tests))) in
    let number : c.map_or.result ≡ option_map_or (λ (x : ℕ × Record). x.0) c.last.result 0 = search (rules, tests) in
    let last : c.last.result ≡ last_or None (take_while (below c.args.modulus) all) =
    ran.2 ∙ ap (λ (xs : List (ℕ × Record)). last_or None xs) (sym (map-id ran.0) ∙ came)
    in
    record { value = number ∙ place_met chain.first chain.records.now c.args.modulus c.last.result chain.rising last }
