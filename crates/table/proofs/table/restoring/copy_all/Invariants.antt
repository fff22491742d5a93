use Rattle.std.proofs.Common.{◌≡◌, ◌+◌, ◌++◌, take, vec_items, vec_len, vec_capacity}
use Rattle.table.proofs.table.restoring.copy_all.Given as goal

-- the records so far are behind those that were there
abbrev pub invariant-loop-record : goal.invariant-loop-record
invariant-loop-record l =
    (vec_items l.into ≡ vec_items l.initial.into ++ take l.record-index l.records)
    × (vec_len l.into ≡ vec_len l.initial.into + l.record-index)
    × (vec_capacity l.into ≡ vec_capacity l.initial.into)
