use Rattle.std.proofs.Common.{rules, ◌≡◌, ℕ, ◌+◌, Some, None, sym, ap, ◌∙◌, arith}
use borrow.Author.Tests.{tests}
use Rattle.std.proofs.lemmas.Iterator.{YieldsList-from_slice}
use Rattle.std.proofs.lemmas.Iterator.Search.{position_from_yields_List}
use Rattle.table.proofs.Records.{has_modulus, number_position}
use Rattle.table.proofs.table.telling.number_of.Goals as goal

pub returns-in_err-place : goal.returns-in_err-place
returns-in_err-place c =
    let found =
    position_from_yields_List (has_modulus c.args.modulus) _ _ None c.in_err-place.ensures.ran (YieldsList-from_slice c.args.records.now cc) (λ x b q k. search (rules, tests))
    in
    record { value = c.from_residual.ensures ∙ sym (number_position c.args.records.now c.args.modulus None found) }

pub returns : goal.returns
returns c =
    let i = c.in_ok-place.place in
    let found =
    position_from_yields_List (has_modulus c.args.modulus) _ _ (Some i) c.in_ok-place.ensures.ran (YieldsList-from_slice c.args.records.now cc) (λ x b q k. search (rules, tests))
    in
    let e : i + 1 ≡ 1 + i = omega arith in
    record { value = ap (λ (n : ℕ). Some n) e ∙ sym (number_position c.args.records.now c.args.modulus (Some i) found) }
