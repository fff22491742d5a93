-- The rows in bytes, and the record of a row.
-- Assumes nothing.
use Rattle.std.specs.Prelude.{ℕ, zero, suc, ◌/◌, List, [], ◌∷◌, length, drop}
use Rattle.table.specs.declared.pair.Record.{Record}
use Rattle.file.specs.declared.row.Row.{Row}
use Rattle.file.specs.Reading.{word_at, residue_of}

-- the row in the first sixteen bytes
unfoldable pub row_at : List ℕ → Row
row_at bytes = record { next = word_at bytes 0; modulus = word_at bytes 4; generator = word_at bytes 8; residue = word_at bytes 12 }

-- so many rows
unfoldable pub rows_in : ℕ → List ℕ → List Row
rows_in zero bytes = []
rows_in (suc n) bytes = row_at bytes ∷ rows_in n (drop 16 bytes)

-- all whole rows
abbrev pub rows_of : List ℕ → List Row
rows_of bytes = rows_in (length bytes / 16) bytes

abbrev pub record_of : Row → Record
record_of row = record { next = row.next; modulus = row.modulus; generator = row.generator; residue = residue_of row.residue }
