-- Filling a record.
-- Assumes nothing.
use Rattle.std.specs.Prelude.{ℕ, ◌-◌, Bool, false, ◌&&◌, Some, None, Option, nat_lt, slice_index_or, slice_set}
use Rattle.table.specs.declared.pair.Record.{Record}
use Rattle.table.specs.Chain.{Contents, head}
use Rattle.table.specs.Fitness.{record_waits}

-- there is such a record, it waits, and v is a residue by its modulus
abbrev pub fillable : Option Record → ℕ → Bool
fillable None v = false
fillable (Some r) v = record_waits r && nat_lt v r.modulus

-- a record with the residue v
abbrev pub with_residue : Record → ℕ → Record
with_residue r v = record { next = r.next; modulus = r.modulus; generator = r.generator; residue = Some v }

-- the table with the residue v in the record numbered n, and all else as it was
abbrev pub filled : Contents → ℕ → ℕ → Contents
filled t n v =
    record { first = t.first; index = t.index; records = slice_set t.records (n - 1) (with_residue (slice_index_or t.records (n - 1) (head 0)) v) }
