use Rattle.std.proofs.Common.{◌≡◌, ◌++◌, map}
use Rattle.file.specs.Rows.{record_of, rows_of}
use Rattle.file.proofs.reading.hold.Given as goal

-- the records so far, and those of the rows that are left
abbrev pub invariant-loop-row : goal.invariant-loop-row
invariant-loop-row l =
    (goal.iterator-loop-row).can_next l.row-iterator
    × (goal.iterator-loop-row).is_finite l.row-iterator
    × (l.records.items ++ map record_of (rows_of l.row-iterator.0.now) ≡ map record_of (rows_of l.fn.rows.0.now))
