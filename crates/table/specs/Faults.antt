-- The faults that a reader along the chain finds, in the order in which it looks for them.
-- Assumes nothing.
use Rattle.std.specs.Prelude.{ℕ, zero, suc, Bool, not, List, [], ◌∷◌, ◌++◌, map, length, ◌==◌, nat_le, nat_lt}
use Rattle.arithmetic.specs.declared.refusal.Refusal.{Refusal}
use Rattle.table.specs.declared.fault.Damage.TheVariants.{Length, Chain, Residue}
use Rattle.table.specs.declared.fault.Fault.{Fault}
use Rattle.table.specs.declared.fault.Layer.{Layer}
use Rattle.table.specs.declared.fault.Layer.TheVariants.{File, Job}
use Rattle.table.specs.declared.pair.Record.{Record}
use Rattle.table.specs.Chain.{row, rows, next_in, modulus_in}
use Rattle.arithmetic.specs.Causes.{index_causes, pair_causes}
use Rattle.table.specs.Fitness.{record_waits}

abbrev pub fault : ℕ → Layer → Fault
fault i l = record { «record» = i; layer = l }

-- why the job is refused, as faults of the record i
abbrev pub of_job : ℕ → List (Bool × Refusal) → List (Bool × Fault)
of_job i causes = map (λ t. (t.0, fault i (Job t.1))) causes

-- the record numbered i, which comes after one of the modulus `before`, in a listing for the index k
abbrev pub record_tests : ℕ → ℕ → ℕ → Record → List (Bool × Fault)
record_tests k before i r =
    (nat_le r.modulus before, fault i (File Chain))
    ∷ (not (record_waits r), fault i (File Residue))
    ∷ of_job i (pair_causes k r.modulus r.generator)

-- the chain from the record i on, where so many records are not visited yet: it goes on where none is left, ends where
-- some are, leads to a number above the count, or to a record that has a fault
unfoldable pub chain_tests : List Record → ℕ → ℕ → ℕ → ℕ → List (Bool × Fault)
chain_tests rs k count zero i = (not (next_in rs i == 0), fault (next_in rs i) (File Chain)) ∷ []
chain_tests rs k count (suc left) i =
    ((next_in rs i == 0), fault i (File Chain))
    ∷ (nat_lt count (next_in rs i), fault (next_in rs i) (File Chain))
    ∷ (record_tests k (modulus_in rs i) (next_in rs i) (row rs (next_in rs i)) ++ chain_tests rs k count left (next_in rs i))

-- an index, and a whole chain for it
abbrev pub job_tests : ℕ → ℕ → List Record → ℕ → List (Bool × Fault)
job_tests first k records count = of_job 0 (index_causes k) ++ chain_tests (rows first records) k count count 0

-- records for a table, which holds 1,023 of them at most
abbrev pub restore_tests : ℕ → ℕ → List Record → List (Bool × Fault)
restore_tests first k records = (nat_lt 1023 (length records), fault 0 (File Length)) ∷ job_tests first k records (length records)
