use Rattle.std.proofs.Common.{length, ap, arith}
use Rattle.std.proofs.lemmas.List.{take_rest}
use Rattle.file.specs.Reading.{word_at}
use Rattle.file.proofs.Rowing.{rows_some, row_of_words}
use Rattle.file.proofs.row.RowsIterator.next.Goals as goal

pub returns-clause-steps : goal.returns-clause-steps
unfolding word_at
returns-clause-steps c =
    let bytes = c.args.self.now.0.now in
    rows_some bytes _ _ (omega (arith, c.in-len16-up.len_at_least))
    (row_of_words bytes _ _ _ _ c.from_le_bytes-next.ensures c.from_le_bytes-modulus.ensures c.from_le_bytes-generator.ensures c.from_le_bytes-residue.ensures)
    (take_rest bytes 16)

pub returns-clause-goes : goal.returns-clause-goes
returns-clause-goes c =
    let one = ap length (returns-clause-steps c) in
    record { on = λ f. (tt, tt, omega (arith, one)); keeps = tt; rests = λ f. tt }
