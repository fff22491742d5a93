-- Entering: why it refuses, in the order in which the causes are tried, and what it changes.
-- Assumes nothing.
use Rattle.std.specs.Prelude.{◌≡◌, ℕ, Bool, List, [], ◌∷◌, ◌++◌, map, length, None, Ok, Err, Result, nat_le}
use Rattle.arithmetic.specs.declared.refusal.Refusal.{Refusal}
use Rattle.arithmetic.specs.declared.refusal.Refusal.TheVariants.{ListingFull, AlreadyListed}
use Rattle.table.specs.declared.pair.Record.{Record}
use Rattle.table.specs.Chain.{Contents, chain_pairs, insert, listed, relinked}
use Rattle.arithmetic.specs.Causes.{pair_causes}

-- a pair for a table
abbrev pub enter_causes : Contents → ℕ → ℕ → List (Bool × Refusal)
enter_causes t p g =
    pair_causes t.index p g ++ (nat_le 1023 (length t.records), ListingFull) ∷ (listed t.records p, AlreadyListed) ∷ []

-- a record of the pair (p, g) that waits, linked to the record n
abbrev pub waiting_record : ℕ → ℕ → ℕ → Record
waiting_record n p g = record { next = n; modulus = p; generator = g; residue = None }

-- the records without their links
abbrev pub unlinked : List Record → List Record
unlinked rs = map (λ r. relinked r 0) rs

-- the pair (p, g) was entered: it is the record after the last, which waits, the records before it have all that they
-- had but links, and in the chain it stands in its place; or it was refused, and the table is as it was
abbrev pub Entered : {T : Type 0} → Contents → Contents → ℕ → ℕ → Result T Refusal → Type 0
Entered before after p g (Ok _) =
    (after.index ≡ before.index)
    × (unlinked after.records ≡ unlinked before.records ++ waiting_record 0 p g ∷ [])
    × (chain_pairs after ≡ insert (record { modulus = p; generator = g }) (chain_pairs before))
Entered before after p g (Err _) = after ≡ before
