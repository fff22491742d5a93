-- Reading bytes as a table: the words in them, and the faults in the order in which they are looked for.
-- Assumes nothing.
use Rattle.std.specs.Prelude.{ℕ, zero, suc, ◌+◌, ◌-◌, ◌*◌, ◌/◌, ◌%◌, Bool, cond, not, ◌&&◌, List, [], ◌∷◌, length, drop, Some, None, Option, ◌==◌, nat_le, slice_index}
use Rattle.table.specs.declared.fault.Damage.TheVariants.{Length, Head}
use Rattle.table.specs.declared.fault.Fault.{Fault}
use Rattle.table.specs.declared.fault.Layer.TheVariants.{File}
use Rattle.table.specs.declared.pair.Record.{Record}
use Rattle.table.specs.Chain.{Contents}
use Rattle.table.specs.Faults.{fault, job_tests}

-- the word whose lowest byte stands at i
unfoldable pub word_at : List ℕ → ℕ → ℕ
word_at bytes i = slice_index bytes i + slice_index bytes (i + 1) * 256 + slice_index bytes (i + 2) * 65536 + slice_index bytes (i + 3) * 16777216

-- a residue word: the empty mark is none
abbrev pub residue_of : ℕ → Option ℕ
residue_of w = cond (w == 4294967295) None (Some w)

-- the record in the first sixteen bytes
unfoldable pub record_at : List ℕ → Record
record_at bytes = record { next = word_at bytes 0; modulus = word_at bytes 4; generator = word_at bytes 8; residue = residue_of (word_at bytes 12) }

-- so many records, sixteen bytes each
unfoldable pub records_in : ℕ → List ℕ → List Record
records_in zero bytes = []
records_in (suc n) bytes = record_at bytes ∷ records_in n (drop 16 bytes)

-- how many records stand behind the head
abbrev pub pair_count : List ℕ → ℕ
pair_count bytes = length bytes / 16 - 1

-- the table in the bytes
unfoldable pub decode : List ℕ → Contents
decode bytes = record { first = word_at bytes 0; index = word_at bytes 4; records = records_in (pair_count bytes) (drop 16 bytes) }

-- a whole number of records, the head among them, and at most 1,023 others
abbrev pub length_fits : ℕ → Bool
length_fits n = n % 16 == 0 && nat_le 16 n && nat_le n 16384

-- the head tells how many pairs there are, and then 0
abbrev pub head_fits : List ℕ → Bool
head_fits bytes = word_at bytes 8 == pair_count bytes && word_at bytes 12 == 0

-- length and head, then the index, then the records along the chain
abbrev pub read_tests : List ℕ → List (Bool × Fault)
read_tests bytes =
    (not (length_fits (length bytes)), fault 0 (File Length))
    ∷ (not (head_fits bytes), fault 0 (File Head))
    ∷ job_tests (decode bytes).first (decode bytes).index (decode bytes).records (pair_count bytes)
