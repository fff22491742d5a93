-- Tables as their calls speak of them.
-- Assumes nothing.
use Rattle.std.specs.Prelude.{ℕ, List, [], vec_items}
use Rattle.table.specs.declared.pair.Record.{Record}
use Rattle.table.specs.declared.table.RecordTable.{RecordTable}
use Rattle.table.specs.Chain.{Contents}

-- what a table holds
abbrev pub contents : RecordTable → Contents
contents t = record { first = t.first; index = t.index; records = vec_items t.records }

-- a table of no pair, for the index k
abbrev pub empty : ℕ → Contents
empty k = record { first = 0; index = k; records = [] }

-- a table of these records, for the index k
abbrev pub holding : ℕ → ℕ → List Record → Contents
holding first k records = record { first = first; index = k; records = records }
