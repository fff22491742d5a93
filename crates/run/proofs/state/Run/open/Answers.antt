use Rattle.std.proofs.Common.{ℕ, Some, subst, arith}
use Rattle.std.proofs.lemmas.Result.{err_from_is_err_and}
use Rattle.run.specs.Calls.{Started}
use Rattle.run.specs.Places.{kind_of}
use Rattle.run.proofs.Opening.{started_kept, sum_start, pair_cause_first}
use Rattle.run.proofs.state.Run.open.Goals as goal

pub returns-in_err-plain : goal.returns-in_err-plain
returns-in_err-plain c =
    let p = err_from_is_err_and c.from_residual.result c.from_residual.ensures.1 in
    rw (p.1, p.2)
    (record {
      opened = pair_cause_first
          c.args.kind
          c.args.index
          c.args.modulus
          c.args.generator
          c.in_err-plain.field-0.0
          c.in_err-plain.ensures.causes;
    })

pub invariant_of-result : goal.invariant_of-result
invariant_of-result c =
    let paired = c.in_ok-plain.ensures.causes in
    let started : Started c.args.kind c.args.index c.args.modulus (Some c.in-Some.progress) =
    subst (λ (n : ℕ). Started c.args.kind c.args.index n (Some c.in-Some.progress)) paired.2 c.in-Some.ensures.started in
    let kept = started_kept c.args.kind c.args.index c.args.modulus c.args.generator c.in-Some.progress started in record {
      fit = paired.1;
      usable = kept.0;
      within = omega arith;
      summed = sum_start (kind_of c.in-Some.progress) c.args.modulus c.args.generator c.args.index;
      placed = kept.1;
    }
