-- Runs by their number: what taking one out leaves.
-- Assumes nothing.
use Rattle.std.specs.Prelude.{◌≡◌, ℕ, ◌⊎◌, List, Some, None, Ok, Err, Option, Result, slice_set}
use Rattle.std.specs.List.{slice_get}
use Rattle.run.specs.declared.finished.FinishedResidue.{FinishedResidue}
use Rattle.run.specs.declared.state.Run.{Run}
use Rattle.session.specs.declared.slot.Slot.{Slot}
use Rattle.session.specs.declared.slot.Slot.TheVariants.{Open, Finished, Spent}

-- a slot as the run that is open in it, or itself where there is none
abbrev pub GivesRun : Slot → Result Run Slot → Type 0
GivesRun s (Ok run) = s ≡ Open run
GivesRun s (Err other) = (other ≡ s) × ((run : Run) → s ≡ Open run → ⊥)

-- and as what finishing a run gave
abbrev pub GivesFinished : Slot → Result FinishedResidue Slot → Type 0
GivesFinished s (Ok f) = s ≡ Finished f
GivesFinished s (Err other) = (other ≡ s) × ((f : FinishedResidue) → s ≡ Finished f → ⊥)

-- what stands at n is what is wanted and is taken out; or it is not, and what the try handed back stands there; or
-- nothing stands there, and nothing is changed
abbrev pub Taken : {T : Type 0} → (Slot → Result T Slot → Type 0) → List Slot → List Slot → ℕ → Option T → Type 0
Taken gives before after n (Some x) = (s : Slot) × (slice_get before n ≡ Some s) × gives s (Ok x) × (after ≡ slice_set before n Spent)
Taken gives before after n None =
    ((slice_get before n ≡ None) × (after ≡ before))
    ⊎ ((s : Slot) × (other : Slot) × (slice_get before n ≡ Some s) × gives s (Err other) × (after ≡ slice_set before n other))
