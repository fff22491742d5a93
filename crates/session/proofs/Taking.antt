-- Slots taken out by their number and put back.
-- Main statements: open_taken, none_open, finished_taken, none_finished, taken_is, put_back, past_place, not_open, not_finished, place_set_same, place_set_other.
-- Assumes nothing.
use Rattle.std.proofs.Common.{◌≡◌, ℕ, ◌<◌, ◌≤◌, false, ◌≢◌, List, length, get_or, set, Some, None, Option, sym, refl, ap, ◌∙◌, inl, inr, ⊎_elim, arith}
use Rattle.std.specs.List.{slice_get}
use Rattle.std.proofs.lemmas.List.{set-set, set-get_or, length-set, get_or-set_same, get_or-set_other}
use Rattle.std.proofs.lemmas.Option.{slice_get-get_or, slice_get_past}
use Rattle.std.proofs.lemmas.Bool.{cases_lt}
use Rattle.run.specs.declared.finished.FinishedResidue.{FinishedResidue}
use Rattle.run.specs.declared.state.Run.{Run}
use Rattle.session.specs.declared.slot.Slot.{Slot}
use Rattle.session.specs.declared.slot.Slot.TheVariants.{Open, Finished, Spent}
use Rattle.session.specs.Slots.{GivesRun, GivesFinished, Taken}
use Rattle.session.specs.Made.{open_at, unspent_at}
use Rattle.session.specs.Sessions.{Unopened, slot_place, place_of, place_in}

-- what was lent and taken out stood there
pub taken_is : (xs : List Slot) (n : ℕ) (y s : Slot) → n < length xs → y ≡ get_or xs n y → s ≡ y → slice_get xs n ≡ Some s
taken_is xs n y s low is same = slice_get-get_or xs n y low ∙ ap (λ (x : Slot). Some x) (sym is ∙ sym same)

pub put_back : (xs : List Slot) (n : ℕ) (y s z : Slot) → y ≡ get_or xs n y → s ≡ y → set (set xs n z) n s ≡ xs
put_back xs n y s z is same = set-set xs n z s ∙ ap (λ (x : Slot). set xs n x) (same ∙ is) ∙ set-get_or xs n y

-- past the last run none was opened
pub past_place : (xs : List Slot) (n : ℕ) → length xs ≤ n → place_in xs n ≡ Unopened
past_place xs n high = ap place_of (slice_get_past xs n high)

pub place_at : (xs : List Slot) (n : ℕ) (s : Slot) → slice_get xs n ≡ Some s → place_in xs n ≡ slot_place s
place_at xs n s is = ap place_of is

pub not_open : (s : Slot) → ((run : Run) → s ≡ Open run → ⊥) → open_at (slot_place s) ≡ false
not_open (Open run) other = absurd (other run refl)
not_open (Finished f) other = refl
not_open Spent other = refl

pub not_finished : (s : Slot) → ((f : FinishedResidue) → s ≡ Finished f → ⊥) → unspent_at (slot_place s) ≡ false
not_finished (Open run) other = refl
not_finished (Finished f) other = absurd (other f refl)
not_finished Spent other = refl

-- what was lent where it stood and is not changed
pub stays : (xs : List Slot) (n : ℕ) (y : Slot) → y ≡ get_or xs n y → set xs n y ≡ xs
stays xs n y is = ap (λ (x : Slot). set xs n x) is ∙ set-get_or xs n y

-- a run that is not open
pub shut_at : (xs : List Slot) (n : ℕ) (y : Slot) → n < length xs → y ≡ get_or xs n y → ((run : Run) → y ≡ Open run → ⊥) → open_at (place_in xs n) ≡ false
shut_at xs n y low is other = ap open_at (place_at xs n y (taken_is xs n y y low is refl)) ∙ not_open y other

-- a slot that is there has a number below the count
pub found_within : (xs : List Slot) (n : ℕ) (s : Slot) → slice_get xs n ≡ Some s → n < length xs
found_within xs n s is =
    ⊎_elim
    (λ (low : n < length xs). low)
    (λ (high : length xs ≤ n).
    let never : None ≡ Some s = sym (slice_get_past xs n high) ∙ is in
    absurd (let z : ◌≡◌ {A = ℕ} 0 1 = cc in omega arith))
    (cases_lt n (length xs))

pub place_set_same : (xs : List Slot) (n : ℕ) (s : Slot) → n < length xs → place_in (set xs n s) n ≡ slot_place s
place_set_same xs n s low =
    let within : n < length (set xs n s) = omega (arith, length-set xs n s) in
    ap place_of (slice_get-get_or (set xs n s) n s within ∙ ap (λ (x : Slot). Some x) (get_or-set_same xs n s s low))

nth_set_other : (xs : List Slot) (n q : ℕ) (s : Slot) → q ≢ n → slice_get (set xs n s) q ≡ slice_get xs q
nth_set_other xs n q s ne =
    ⊎_elim
    (λ (low : q < length xs).
    let within : q < length (set xs n s) = omega (arith, length-set xs n s) in
    slice_get-get_or (set xs n s) q s within ∙ ap (λ (x : Slot). Some x) (get_or-set_other xs n q s s ne) ∙ sym (slice_get-get_or xs q s low))
    (λ (high : length xs ≤ q). slice_get_past (set xs n s) q (omega (arith, length-set xs n s)) ∙ sym (slice_get_past xs q high))
    (cases_lt q (length xs))

pub place_set_other : (xs : List Slot) (n q : ℕ) (s : Slot) → q ≢ n → place_in (set xs n s) q ≡ place_in xs q
place_set_other xs n q s ne = ap place_of (nth_set_other xs n q s ne)

-- what was taken out and put back stands where it stood
pub put_same : (xs : List Slot) (n : ℕ) (s z : Slot) → slice_get xs n ≡ Some s → set (set xs n z) n s ≡ xs
put_same xs n s z is =
    let some : Some (get_or xs n s) ≡ Some s = sym (slice_get-get_or xs n s (found_within xs n s is)) ∙ is in
    let same : get_or xs n s ≡ s = cc in
    put_back xs n s s z (sym same) refl

-- what taking an open run out tells, and where there is none
pub open_taken : (before after : List Slot) (n : ℕ) (run : Run) → Taken GivesRun before after n (Some run)
    → (slice_get before n ≡ Some (Open run)) × (after ≡ set before n Spent)
open_taken before after n run t = (t.1 ∙ ap (λ (x : Slot). Some x) t.2, t.3)

same_again : (xs : List Slot) (n : ℕ) (s other : Slot) → slice_get xs n ≡ Some s → other ≡ s → set xs n other ≡ xs
same_again xs n s other is same = ap (λ (x : Slot). set xs n x) same ∙ sym (set-set xs n s s) ∙ put_same xs n s s is

pub none_open : (before after : List Slot) (n : ℕ) → Taken GivesRun before after n None → (open_at (place_in before n) ≡ false) × (after ≡ before)
none_open before after n (inl t) = (ap (λ (o : Option Slot). open_at (place_of o)) t.0, t.1)
none_open before after n (inr t) = (
  ap open_at (place_at before n t.0 t.2) ∙ not_open t.0 t.3.1,
  t.4 ∙ same_again before n t.0 t.1 t.2 t.3.0,
)

-- and so for a finished residue
pub finished_taken : (before after : List Slot) (n : ℕ) (f : FinishedResidue) → Taken GivesFinished before after n (Some f)
    → (slice_get before n ≡ Some (Finished f)) × (after ≡ set before n Spent)
finished_taken before after n f t = (t.1 ∙ ap (λ (x : Slot). Some x) t.2, t.3)

pub none_finished : (before after : List Slot) (n : ℕ) → Taken GivesFinished before after n None → (unspent_at (place_in before n) ≡ false) × (after ≡ before)
none_finished before after n (inl t) = (ap (λ (o : Option Slot). unspent_at (place_of o)) t.0, t.1)
none_finished before after n (inr t) = (
  ap unspent_at (place_at before n t.0 t.2) ∙ not_finished t.0 t.3.1,
  t.4 ∙ same_again before n t.0 t.1 t.2 t.3.0,
)
