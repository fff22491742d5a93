-- The record of a modulus, and records whose residue is the result of a whole run.
-- Assumes nothing.
use Rattle.std.specs.Prelude.{ℕ, Bool, true, false, cond, ◌&&◌, ◌||◌, List, [], ◌∷◌, is_some, Some, None, Option, ◌==◌}
use Rattle.theory.specs.declared.kind.Kind.{Kind}
use Rattle.theory.specs.declared.kind.Kind.TheVariants.{Direct, Doubling}
use Rattle.theory.specs.Kinds.{can_run, run_result}
use Rattle.table.specs.declared.pair.Record.{Record}

-- the record of the modulus p, where it is listed
unfoldable pub record_of : List Record → ℕ → Option Record
record_of [] p = None
record_of (r ∷ rs) p = cond (r.modulus == p) (Some r) (record_of rs p)

-- the generator and the residue of a record, where there is one
abbrev pub generator_in : Option Record → Option ℕ
generator_in None = None
generator_in (Some r) = Some r.generator

abbrev pub residue_in : Option Record → Option ℕ
residue_in None = None
residue_in (Some r) = r.residue

-- the generator listed for p
abbrev pub generator_of : List Record → ℕ → Option ℕ
generator_of rs p = generator_in (record_of rs p)

-- the residue of the record of p, none where it waits or p is not listed
abbrev pub residue_for : List Record → ℕ → Option ℕ
residue_for rs p = residue_in (record_of rs p)

-- there is a record, and it has its residue
abbrev pub waits_not : Option Record → Bool
waits_not None = false
waits_not (Some r) = is_some r.residue

-- v is the result of a whole run of this kind, of index k, for the pair (p, g)
abbrev pub result_by : Kind → ℕ → ℕ → ℕ → ℕ → Bool
result_by kind k p g v = can_run kind p k && v == run_result kind p g k

abbrev pub residue_worked : ℕ → ℕ → ℕ → Option ℕ → Bool
residue_worked k p g None = true
residue_worked k p g (Some v) = result_by Direct k p g v || result_by Doubling k p g v

-- the residue of a record, where it has one, is the result of a whole run of index k for its pair, of one kind or the other
unfoldable pub record_worked : ℕ → Record → Bool
record_worked k r = residue_worked k r.modulus r.generator r.residue
