use Rattle.std.proofs.Common.{rules, ◌≡◌, sym, ap, ◌∙◌}
use borrow.Author.Tests.{tests}
use Rattle.std.specs.Option.{option_map}
use Rattle.std.specs.Result.{result_err}
use Rattle.std.proofs.lemmas.Bool.{cond-false, lt-leb, not_from_true, not_from_false}
use Rattle.arithmetic.specs.Causes.{pair_causes}
use Rattle.arithmetic.specs.declared.refusal.Refusal.{Refusal}
use Rattle.table.specs.declared.fault.Layer.TheVariants.{Job}
use Rattle.table.specs.Faults.{fault}
use Rattle.table.specs.Fitness.{record_waits}
use Rattle.table.proofs.Judged.{job_cause}
use Rattle.table.proofs.table.restoring.judge_record.Goals as goal

pub returns : goal.returns
returns c =
    let i = c.args.number in
    let r = c.args.«record» in
    let told : result_err c.map_err.result ≡ option_map (λ (x : Refusal). fault i (Job x)) (result_err c.try_pair.result) = search (rules, tests) in
    record {
      answer =
          told
          ∙ ap (option_map (λ (x : Refusal). fault i (Job x))) c.try_pair.ensures.answer
          ∙ sym (job_cause i (pair_causes c.args.index r.modulus r.generator))
          ∙ sym (cond-false _ _ _ (lt-leb r.modulus c.args.before c.if-record-before.false)
          ∙ cond-false _ _ _ (not_from_true (record_waits r) (not_from_false _ (sym c.if-is_some.ensures))));
    }
