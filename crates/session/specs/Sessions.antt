-- What a session holds, and its coupling with the history: what the history tells is what is there. Only the inner
-- functions of this crate speak of it.
-- Assumes nothing.
use Rattle.std.specs.Prelude.{◌≡◌, ℕ, ◌≤◌, true, List, ◌∷◌, ◌++◌, length, is_some, Some, None, Option}
use Rattle.std.specs.List.{slice_get}
use Rattle.theory.specs.declared.kind.Kind.{Kind}
use Rattle.theory.specs.Direct.{terms_of}
use Rattle.arithmetic.specs.Causes.{index_stands}
use Rattle.run.specs.declared.finished.FinishedResidue.{FinishedResidue}
use Rattle.run.specs.Places.{kind_of}
use Rattle.table.specs.Chain.{Contents}
use Rattle.book.specs.Worked.{generator_of, residue_for}
use Rattle.session.specs.declared.answer.Answer.{Answer}
use Rattle.session.specs.declared.answer.Answer.TheVariants.{Filled}
use Rattle.session.specs.declared.answer.Outcome.{Outcome}
use Rattle.session.specs.declared.slot.Slot.{Slot}
use Rattle.session.specs.declared.slot.Slot.TheVariants.{Open as OpenSlot, Finished as FinishedSlot, Spent as SpentSlot}
use Rattle.session.specs.Events.{Deed, Event}
use Rattle.session.specs.Histories.{History, history, index, generator_listed, listed_count, openings, run_opened, reported, given, spent, residue_filled, Among}
use Rattle.session.specs.Law.{Whole, FillMade, Lawful, Law}

-- a call with its answer
abbrev pub event : Deed → Answer → Event
event d a = record { deed = d; answer = a }

-- what stands for a run by its number: none opened yet; a run at work, with kind, index, modulus, generator and terms
-- taken; what finishing it gave; or nothing, once that is filled in
pub data Place : Type 0 where
  Unopened : Place
  AtWork : Kind → (k p g t : ℕ) → Place
  Ended : Outcome → Place
  Used : Place

-- the history tells of the run r what stands for it
abbrev pub PlaceIs : History → ℕ → Place → Type 0
PlaceIs h r Unopened = (run_opened h r ≡ None) × (reported h r ≡ 0) × (given h r ≡ None) × (spent h r ≡ None)
PlaceIs h r (AtWork kind k p g t) =
    (run_opened h r ≡ Some (kind, p)) × (reported h r ≡ t) × (given h r ≡ None) × (spent h r ≡ None) × (generator_listed h p ≡ Some g) × (index h ≡ k)
    × (t ≤ terms_of p)
PlaceIs h r (Ended o) = (given h r ≡ Some o) × (spent h r ≡ None)
PlaceIs h r Used = (is_some (given h r) ≡ true) × (is_some (spent h r) ≡ true)

-- the residue x is there for p by a fill that was made, of the result of a whole run
pub record FilledBy (h : History) (k : ℕ) (generator : ℕ → Option ℕ) (p x : ℕ) : Type 0 where
  pub outcome : Outcome
  pub call : Deed
  pub g : ℕ
  pub happened : Among (event call (Filled outcome)) h
  pub listed : generator p ≡ Some g
  pub residue_is : outcome.residue ≡ x
  pub whole : Whole k p g outcome

-- the history tells what is there: the index, the generator and the residue of each modulus, how many pairs are listed,
-- how many runs were opened, and what stands for each
pub record Coupled (h : History) (k : ℕ) (generator : ℕ → Option ℕ) (count : ℕ) (residue : ℕ → Option ℕ) (opened : ℕ) (place : ℕ → Place) : Type 0 where
  pub index_is : index h ≡ k
  pub stands : index_stands k ≡ true
  pub generator_is : (p : ℕ) → generator_listed h p ≡ generator p
  pub count_is : listed_count h ≡ count
  pub residue_is : (p : ℕ) → residue_filled h p ≡ residue p
  pub opened_is : openings h ≡ opened
  pub fresh : (r : ℕ) → opened ≤ r → place r ≡ Unopened
  pub place_is : (r : ℕ) → PlaceIs h r (place r)
  pub fills_are : (p x : ℕ) → FillMade h p x → residue p ≡ Some x
  pub worked : (p x : ℕ) → residue p ≡ Some x → FilledBy h k generator p x

-- what a finished residue tells
abbrev pub outcome_of : FinishedResidue → Outcome
outcome_of f = record { kind = f.kind; index = f.index; modulus = f.modulus; generator = f.generator; residue = f.residue }

-- what stands in a slot, and for the run r
abbrev pub slot_place : Slot → Place
slot_place (OpenSlot run) = AtWork (kind_of run.progress) run.index run.modulus run.generator run.taken
slot_place (FinishedSlot f) = Ended (outcome_of f)
slot_place SpentSlot = Used

abbrev pub place_of : Option Slot → Place
place_of None = Unopened
place_of (Some s) = slot_place s

abbrev pub place_in : List Slot → ℕ → Place
place_in slots r = place_of (slice_get slots r)

-- the history is coupled with a listing or book and with runs
abbrev pub Holds : History → Contents → List Slot → Type 0
Holds h t slots = Coupled h t.index (generator_of t.records) (length t.records) (residue_for t.records) (length slots) (place_in slots)

-- a call goes lawfully: whatever history was coupled with what was there, its answer is lawful, and the history with it is
-- coupled with what is there now
abbrev pub Goes : Contents → List Slot → Contents → List Slot → Deed → Answer → Type 0
Goes t slots t' slots' d a = (h : History) → Holds h t slots → Lawful h d a × Holds (event d a ∷ h) t' slots'

-- a list of calls goes lawfully: from a lawful history that is coupled with what was there they lead to one that is
-- coupled with what is there now, and their answers stand behind those before
pub record Went (t : Contents) (slots : List Slot) (t' : Contents) (slots' : List Slot) (deeds : List Deed) (before after : List Answer) : Type 0 where
  pub answers : List Answer
  pub behind : after ≡ before ++ answers
  pub each : length answers ≡ length deeds
  pub lawful : (h : History) → Law h → Holds h t slots → Law (history h deeds answers) × Holds (history h deeds answers) t' slots'
