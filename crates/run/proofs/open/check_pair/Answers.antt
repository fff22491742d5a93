use Rattle.std.proofs.Common.{sym, ◌∙◌}
use Rattle.std.proofs.lemmas.Result.{err_from_is_err_and}
use Rattle.arithmetic.specs.Causes.{index_causes, pair_causes}
use Rattle.arithmetic.proofs.Causes.{first_found, first_past}
use Rattle.run.proofs.open.check_pair.Goals as goal

pub returns-in_err-try_index : goal.returns-in_err-try_index
returns-in_err-try_index c =
    let p = err_from_is_err_and c.from_residual.result c.from_residual.ensures.1 in
    rw (p.1, p.2)
    (record {
      causes = first_found
          (index_causes c.args.index)
          (pair_causes c.args.index c.args.modulus c.args.generator)
          c.in_err-try_index.field-0.0
          (sym c.in_err-try_index.ensures.answer);
    })

pub returns-in_err-try_pair : goal.returns-in_err-try_pair
returns-in_err-try_pair c =
    let p = err_from_is_err_and c.from_residual-in_err-try_pair.result c.from_residual-in_err-try_pair.ensures.1 in
    rw (p.1, p.2)
    (record {
      causes = first_past
          (index_causes c.args.index)
          (pair_causes c.args.index c.args.modulus c.args.generator)
          (sym c.in_ok-try_index.ensures.answer)
          ∙ sym c.in_err-try_pair.ensures.answer;
    })
