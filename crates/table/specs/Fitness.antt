-- The tests of a record.
-- Assumes nothing.
use Rattle.std.specs.Prelude.{ℕ, Bool, true, not, ◌&&◌, is_some, Some, None, Option, nat_lt}
use Rattle.theory.specs.Pairs.{Fit}
use Rattle.arithmetic.specs.Causes.{modulus_fits, generator_fits, index_fits}
use Rattle.table.specs.declared.pair.Record.{Record}

-- a residue by p, where there is one
abbrev pub residue_fits : ℕ → Option ℕ → Bool
residue_fits p None = true
residue_fits p (Some v) = nat_lt v p

-- the pair of a record is fit for the index k, and its residue is one by its modulus
unfoldable pub record_fits : ℕ → Record → Bool
record_fits k r =
    modulus_fits r.modulus && generator_fits r.modulus r.generator && index_fits r.modulus k && residue_fits r.modulus r.residue

-- a record waits for its residue
abbrev pub record_waits : Record → Bool
record_waits r = not (is_some r.residue)

-- the pair of the record, where there is one, is fit for the index k
abbrev pub PairFits : ℕ → Option Record → Type 0
PairFits k None = Unit {0}
PairFits k (Some r) = Fit k r.modulus r.generator
