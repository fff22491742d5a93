use Rattle.std.proofs.Common.{◌≡◌, ◌<◌, ◌≤◌, List, [], ◌∷◌, ◌++◌, map, length, is_ok, cond, sym, ap, ◌∙◌, arith, length-append}
use Rattle.std.proofs.lemmas.List.{append-nil, length-map}
use Rattle.table.specs.declared.pair.Record.{Record}
use Rattle.table.specs.Faults.{restore_tests}
use Rattle.table.specs.Tables.{empty, holding}
use Rattle.arithmetic.specs.Causes.{first_cause}
use Rattle.file.specs.declared.row.Row.{Row}
use Rattle.file.specs.Rows.{record_of}
use Rattle.file.proofs.reading.hold.Goals as goal

module _ (items : List Record) (left total : List Row) (so_far : items ++ map record_of left ≡ map record_of total) where
  room : (row : Row) (others : List Row) → left ≡ row ∷ others → length total ≤ 1023 → length items < 1023
  room row others is few =
      omega (arith, ap length so_far, length-append items (map record_of left), length-map left record_of, ap length is, length-map total record_of)

  whole : left ≡ [] → items ≡ map record_of total
  whole none = sym (append-nil items) ∙ ap (λ (rows : List Row). items ++ map record_of rows) (sym none) ∙ so_far

pub push-requires : goal.push-requires
push-requires c =
    let fits : length c.loop-row.records.items < 1023 = room c.loop-row.records.items _ _ c.loop-row.invariant.2 c.in-Some.row _ c.in-Some.ensures.steps c.requires.few in
    (omega arith, fits)

pub returns-clause-answer : goal.returns-clause-answer
returns-clause-answer c =
    let all = whole c.loop-row.records.items _ _ c.loop-row.invariant.2 c.in-None.ensures.steps.0 in
    c.restore.ensures.answer ∙ ap (λ (rs : List Record). first_cause (restore_tests c.args.head.next c.args.head.modulus rs)) (c.as_slice.ensures.value ∙ all)

pub returns-clause-after : goal.returns-clause-after
returns-clause-after c =
    let all = whole c.loop-row.records.items _ _ c.loop-row.invariant.2 c.in-None.ensures.steps.0 in
    c.restore.ensures.after
    ∙ ap (λ (rs : List Record). cond (is_ok c.restore.result) (holding c.args.head.next c.args.head.modulus rs) (empty 2)) (c.as_slice.ensures.value ∙ all)
