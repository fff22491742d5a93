-- The layout of a table as bytes.
-- Assumes nothing.
use Rattle.std.specs.Prelude.{ℕ, ◌/◌, ◌%◌, List, [], ◌∷◌, ◌++◌, length, Some, None, Option}
use Rattle.std.specs.List.{flat_map}
use Rattle.table.specs.declared.pair.Record.{Record}
use Rattle.table.specs.Chain.{Contents}

-- a word of 32 bits, its lowest byte first
unfoldable pub word_bytes : ℕ → List ℕ
word_bytes w = w % 256 ∷ w / 256 % 256 ∷ w / 65536 % 256 ∷ w / 16777216 % 256 ∷ []

-- four words in a row
unfoldable pub row_bytes : ℕ → ℕ → ℕ → ℕ → List ℕ
row_bytes a b c d = word_bytes a ++ (word_bytes b ++ (word_bytes c ++ word_bytes d))

-- a residue as a word: the empty mark where the record waits
abbrev pub residue_word : Option ℕ → ℕ
residue_word None = 4294967295
residue_word (Some v) = v

-- a record: next, modulus, generator, residue
abbrev pub record_bytes : Record → List ℕ
record_bytes r = row_bytes r.next r.modulus r.generator (residue_word r.residue)

-- a table: the head, that is first, index, number of pairs and 0, and then its records
unfoldable pub encode : Contents → List ℕ
encode t = row_bytes t.first t.index (length t.records) 0 ++ flat_map record_bytes t.records
