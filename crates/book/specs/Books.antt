-- Books as their calls speak of them.
-- Assumes nothing.
use Rattle.std.specs.Prelude.{◌≡◌, ℕ, ◌*◌, ◌/◌, Bool, true, cond, not, List, [], ◌∷◌, length, count_by, is_some, Some, None, Ok, Err, Option, Result, ◌==◌}
use Rattle.theory.specs.declared.kind.Kind.{Kind}
use Rattle.theory.specs.Bernoulli.{BernoulliMod}
use Rattle.theory.specs.Kinds.{can_run, run_result}
use Rattle.theory.specs.Pairs.{Sound}
use Rattle.arithmetic.specs.declared.refusal.Refusal.{Refusal}
use Rattle.arithmetic.specs.declared.refusal.Refusal.TheVariants.{OtherGenerator, OtherIndex, NotListed, AlreadyFilled, NotUsable}
use Rattle.arithmetic.specs.Causes.{first_cause}
use Rattle.run.specs.declared.finished.FinishedResidue.{FinishedResidue}
use Rattle.run.specs.declared.state.Run.{Run}
use Rattle.run.specs.Calls.{Stands}
use Rattle.table.specs.declared.pair.Record.{Record}
use Rattle.table.specs.Chain.{Contents, number_of}
use Rattle.table.specs.Filling.{filled}
use Rattle.table.specs.Tables.{contents}
use Rattle.book.specs.Worked.{record_of, waits_not}
use Rattle.book.specs.declared.book.Book.{Book}

-- what a book holds: index, chain and records
abbrev pub book : Book → Contents
book b = contents b.table

-- a run of this kind for the modulus p
abbrev pub open_causes : Contents → Kind → ℕ → List (Bool × Refusal)
open_causes t kind p =
    (not (is_some (record_of t.records p)), NotListed)
    ∷ (waits_not (record_of t.records p), AlreadyFilled)
    ∷ (not (can_run kind p t.index), NotUsable)
    ∷ []

-- opening gives a run of the book's index and the record's pair that has taken no term, or the first cause
abbrev pub Opened : Contents → Kind → ℕ → Result Run Refusal → Type 0
Opened t kind p (Ok run) =
    (first_cause (open_causes t kind p) ≡ None)
    × ((r : Record) × (record_of t.records p ≡ Some r) × Stands run kind t.index p r.generator 0)
Opened t kind p (Err e) = first_cause (open_causes t kind p) ≡ Some e

-- the record's generator is g
abbrev pub has_generator : Option Record → ℕ → Bool
has_generator None g = true
has_generator (Some r) g = r.generator == g

-- a finished residue of index k, modulus p and generator g
abbrev pub fill_causes : Contents → ℕ → ℕ → ℕ → List (Bool × Refusal)
fill_causes t k p g =
    (not (k == t.index), OtherIndex)
    ∷ (not (is_some (record_of t.records p)), NotListed)
    ∷ (not (has_generator (record_of t.records p) g), OtherGenerator)
    ∷ (waits_not (record_of t.records p), AlreadyFilled)
    ∷ []

-- the number of the record that waits for the residue, or the first cause
abbrev pub Admitted : Contents → FinishedResidue → Result ℕ Refusal → Type 0
Admitted t f (Ok n) =
    (first_cause (fill_causes t f.index f.modulus f.generator) ≡ None) × (number_of t.records f.modulus ≡ Some n)
Admitted t f (Err e) = first_cause (fill_causes t f.index f.modulus f.generator) ≡ Some e

-- filling uses the residue up, puts it into the record of its modulus, and changes nothing else; refused by the first
-- of the causes, it hands the residue back, and the book is as it was
abbrev pub FilledIn : Contents → Contents → FinishedResidue → {T : Type 0} → Result T (Refusal × FinishedResidue) → Type 0
FilledIn before after f (Ok _) =
    (first_cause (fill_causes before f.index f.modulus f.generator) ≡ None)
    × ((n : ℕ) × (number_of before.records f.modulus ≡ Some n) × (after ≡ filled before n f.residue))
FilledIn before after f (Err back) =
    (first_cause (fill_causes before f.index f.modulus f.generator) ≡ Some back.0) × (back.1 ≡ f) × (after ≡ before)

-- v is the result of a whole run of index k for the pair (p, g), of some kind, and so B_k modulo p where that is sound
pub record WholeRun (k p g v : ℕ) : Type 0 where
  pub kind : Kind
  pub usable : can_run kind p k ≡ true
  pub result : v ≡ run_result kind p g k
  pub bernoulli : Sound p g → BernoulliMod p k v

-- a residue that is shown is the result of a whole run
abbrev pub Shows : ℕ → ℕ → ℕ → Option ℕ → Type 0
Shows k p g None = Unit {0}
Shows k p g (Some v) = WholeRun k p g v

-- showing tells the residue of the record of p, none while it waits; it refuses a modulus that is not listed
abbrev pub ShownFor : Contents → ℕ → Result (Option ℕ) Refusal → Type 0
ShownFor t p (Ok s) =
    (r : Record) × (record_of t.records p ≡ Some r) × (s ≡ r.residue) × Shows t.index p r.generator s
ShownFor t p (Err e) = (record_of t.records p ≡ None) × (e ≡ NotListed)

-- how many records have their residue
abbrev pub filled_count : List Record → ℕ
filled_count rs = count_by (λ r. is_some r.residue) rs

-- the whole part of 1,000 × filled ÷ listed, and 1,000 for an empty book
abbrev pub share_of : List Record → ℕ
share_of rs = cond (length rs == 0) 1000 (1000 * filled_count rs / length rs)
