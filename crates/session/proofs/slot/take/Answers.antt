use Rattle.std.proofs.Common.{vec_items, inr, arith}
use Rattle.std.proofs.lemmas.List.{set-set}
use Rattle.session.proofs.Taking.{taken_is}
use Rattle.session.proofs.slot.take.Goals as goal

pub returns-in-Err-clause-taken : goal.returns-in-Err-clause-taken
returns-in-Err-clause-taken g c =
    let xs = vec_items c.args.runs.now in
    let n = c.args.number in
    inr (
      c.replace.result,
      c.in-Err.other,
      taken_is xs n c.index_mut.result.now c.replace.result (omega (arith, c.if-number-len.false, c.len.ensures, c.args.runs.now.ok.0)) c.index_mut.ensures.value c.replace.ensures.value,
      c.in-Err.ensures,
      set-set xs n c.replace.new.dest c.in-Err.other,
    )
