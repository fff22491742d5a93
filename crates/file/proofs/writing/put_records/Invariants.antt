use Rattle.std.proofs.Common.{◌≡◌, ◌*◌, ◌++◌, take, drop}
use Rattle.std.specs.List.{flat_map}
use Rattle.file.specs.Layout.{record_bytes}
use Rattle.file.proofs.writing.put_records.Given as goal

-- the records so far stand in front, and the rest of the output is as it was
abbrev pub invariant-loop-i : goal.invariant-loop-i
invariant-loop-i l = l.output ≡ flat_map record_bytes (take l.i l.records) ++ drop (16 * l.i) l.initial.output
