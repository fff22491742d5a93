-- What a walk along links meets, whether or not they are a whole chain.
-- Assumes nothing.
use Rattle.std.specs.Prelude.{ℕ, zero, suc, List, [], ◌∷◌, Some, None, Option}
use Rattle.table.specs.declared.pair.Record.{Record}
use Rattle.table.specs.Chain.{numbered}

-- a record with its number, where there is one, and what comes after it
abbrev pub met_first : ℕ → (ℕ → List (ℕ × Record)) → Option Record → List (ℕ × Record)
met_first i after None = []
met_first i after (Some r) = (i, r) ∷ after r.next

-- the records met in so many steps at most, each with its number, from the one numbered i on
unfoldable pub met : List Record → ℕ → ℕ → List (ℕ × Record)
met rs zero i = []
met rs (suc left) i = met_first i (met rs left) (numbered rs i)
