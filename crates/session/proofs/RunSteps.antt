-- Calls on runs go lawfully, by what the run's own calls promise.
-- Main statements: goes_not_made, goes_refused, goes_unopened, goes_taken, goes_told, goes_finished, goes_unfinished, whole_of.
-- Assumes nothing.
use Rattle.std.proofs.Common.{◌≡◌, ℕ, ◌+◌, ◌-◌, ◌≤◌, min, Bool, true, false, eqb, ◌≢◌, List, ◌∷◌, length, set, Some, Ok, Err, Result, sym, refl, ap, ◌∙◌, subst, arith}
use Rattle.std.specs.List.{slice_get}
use Rattle.std.proofs.lemmas.List.{length-set, set-set}
use Rattle.theory.specs.Direct.{terms_of}
use Rattle.arithmetic.specs.declared.refusal.Refusal.{Refusal}
use Rattle.arithmetic.specs.Causes.{first_cause, index_stands}
use Rattle.theory.specs.Bernoulli.{BernoulliMod}
use Rattle.theory.specs.Kinds.{partial_sum}
use Rattle.theory.proofs.EitherKind.{run_gives_bernoulli}
use Rattle.run.specs.declared.finished.FinishedResidue.{FinishedResidue}
use Rattle.run.specs.declared.state.Run.{Run}
use Rattle.run.specs.Finishing.{Finished as Done}
use Rattle.run.specs.Calls.{Stands, Shared, left_of}
use Rattle.run.specs.Places.{kind_of}
use Rattle.table.specs.Chain.{Contents}
use Rattle.book.specs.Worked.{generator_of, residue_for}
use Rattle.session.specs.declared.answer.Answer.{Answer}
use Rattle.session.specs.declared.answer.Answer.TheVariants.{Share, Told, Finished as FinishedWith, Refused, NotMade}
use Rattle.session.specs.declared.answer.Outcome.{Outcome}
use Rattle.session.specs.declared.slot.Slot.{Slot}
use Rattle.session.specs.declared.slot.Slot.TheVariants.{Open, Finished, Spent}
use Rattle.session.specs.Events.{Deed, Finish, Tell, names}
use Rattle.session.specs.Histories.{History, index, reported, run_modulus, run_left, is_open}
use Rattle.session.specs.Law.{made, causes, Whole, Accepted}
use Rattle.session.specs.Made.{open_at}
use Rattle.session.specs.Sessions.{event, AtWork, PlaceIs, Coupled, outcome_of, slot_place, place_in, Holds, Goes}
use Rattle.session.proofs.Coupling.{coupled_quiet, coupled_share, coupled_finish}
use Rattle.session.proofs.Lawful.{lawful_not_made, lawful_refused, lawful_accepted}
use Rattle.session.proofs.Steps.{open_by_place, never_too_many, left_at, run_at, finish_causes_are}
use Rattle.session.proofs.Taking.{place_at, found_within, put_same, place_set_same, place_set_other}

-- what taking terms is answered
abbrev pub share_answer : Result ℕ Refusal → Answer
share_answer (Ok n) = Share n
share_answer (Err e) = Refused e

-- a finished residue is the result of a whole run of its own index and pair
pub whole_of : (f : FinishedResidue) (k p g : ℕ) → f.index ≡ k → f.modulus ≡ p → f.generator ≡ g → Whole k p g (outcome_of f)
whole_of f k p g i m e =
    let own : Whole f.index f.modulus f.generator (outcome_of f) = record {
      index_is = refl;
      modulus_is = refl;
      generator_is = refl;
      usable = f.usable;
      result = f.result;
      bernoulli = λ sound.
          subst (λ (r : ℕ). BernoulliMod f.modulus f.index r) (sym f.result)
          (run_gives_bernoulli f.kind f.index f.modulus f.generator f.fit sound f.usable);
    } in
    subst (λ (x : ℕ). Whole x p g (outcome_of f)) i
    (subst (λ (x : ℕ). Whole f.index x g (outcome_of f)) m (subst (λ (x : ℕ). Whole f.index f.modulus x (outcome_of f)) e own))

module _ (t : Contents) (slots : List Slot) where
  pub known_index : (h : History) → Holds h t slots → index_stands (index h) ≡ true
  known_index h c = ap (λ (k : ℕ). index_stands k) c.index_is ∙ c.stands

  pub known_within : (h : History) → Holds h t slots → (r : ℕ) → is_open h r ≡ true → reported h r ≤ terms_of (run_modulus h r)
  known_within h c r opens = never_too_many h r (place_in slots r) (c.place_is r) opens

  -- a call that names no open run, or nothing to fill in
  pub goes_not_made : (d : Deed) → ((h : History) → Holds h t slots → made h d ≡ false) → Goes t slots t slots d NotMade
  goes_not_made d idle h c = (
    lawful_not_made h (known_index h c) (known_within h c) d (idle h c),
    coupled_quiet h t.index (generator_of t.records) (length t.records) (residue_for t.records) (length slots) (place_in slots) c d NotMade refl refl refl refl refl,
  )

  -- a call that is refused changes nothing
  pub goes_refused : (d : Deed) (e : Refusal) → ((h : History) → Holds h t slots → (made h d ≡ true) × (first_cause (causes h d) ≡ Some e))
      → Goes t slots t slots d (Refused e)
  goes_refused d e cause h c = (
    lawful_refused h (known_index h c) (known_within h c) d e (cause h c).0 (cause h c).1,
    coupled_quiet h t.index (generator_of t.records) (length t.records) (residue_for t.records) (length slots) (place_in slots) c d (Refused e) refl refl refl refl refl,
  )

  -- a call on a run at work
  module _ (n : ℕ) (run : Run) (here : slice_get slots n ≡ Some (Open run)) where
    pub at_work : (h : History) → Holds h t slots
        → PlaceIs h n (AtWork (kind_of run.progress) run.index run.modulus run.generator run.taken)
    at_work h c = subst (PlaceIs h n) (place_at slots n (Open run) here) (c.place_is n)

    pub opened_at_work : (h : History) → Holds h t slots → is_open h n ≡ true
    opened_at_work h c = open_by_place h n (slot_place (Open run)) (at_work h c)

    pub same_index : (h : History) → Holds h t slots → run.index ≡ t.index
    same_index h c = sym (at_work h c).5 ∙ c.index_is

    place_now : (h : History) → Holds h t slots
        → place_in slots n ≡ AtWork (kind_of run.progress) t.index run.modulus run.generator run.taken
    place_now h c =
        place_at slots n (Open run) here
        ∙ ap (λ (k : ℕ). AtWork (kind_of run.progress) k run.modulus run.generator run.taken) (same_index h c)

    pub kept_places : (s z : Slot) (q : ℕ) → q ≢ n → place_in (set (set slots n z) n s) q ≡ place_in slots q
    kept_places s z q ne = place_set_other (set slots n z) n q s ne ∙ place_set_other slots n q z ne

    pub new_place : (s z : Slot) → place_in (set (set slots n z) n s) n ≡ slot_place s
    new_place s z =
        place_set_same (set slots n z) n s (let low = found_within slots n (Open run) here in omega (arith, length-set slots n z))

    same_count : (s z : Slot) → length (set (set slots n z) n s) ≡ length slots
    same_count s z = omega (arith, length-set (set slots n z) n s, length-set slots n z)

    -- carrying or counting on, by the causes cs of the run
    module _ (d : Deed) (c' : ℕ) (cs : List (Bool × Refusal)) (named : (q : ℕ) → names q d ≡ eqb n q) (ready : (h : History) → made h d ≡ is_open h n)
        (caused : (h : History) → PlaceIs h n (slot_place (Open run)) → causes h d ≡ cs)
        (accept : (h : History) (a : Answer) → a ≡ Share (min c' (run_left h n)) → Accepted h d a) where
      stands_at : (run' : Run) (m : ℕ) → Stands run' (kind_of run.progress) run.index run.modulus run.generator (run.taken + m)
          → slot_place (Open run') ≡ AtWork (kind_of run.progress) run.index run.modulus run.generator (run.taken + m)
      stands_at run' m s =
          let a = s.kind_is in let b = s.index_is in let e = s.modulus_is in let f = s.generator_is in let g = s.taken_is in cc

      pub goes_share : (run' : Run) (r : Result ℕ Refusal) (z : Slot) → Shared cs c' run run' r
          → Goes t slots t (set (set slots n z) n (Open run')) d (share_answer r)
      goes_share run' (Ok m) z shared h c =
          let p = run.modulus in
          let g = run.generator in
          let kind = kind_of run.progress in
          let at = at_work h c in
          let slots' = set (set slots n z) n (Open run') in
          let now : place_in slots' n ≡ AtWork kind t.index p g (run.taken + m) =
          new_place (Open run') z
          ∙ stands_at run' m shared.2
          ∙ ap (λ (k : ℕ). AtWork kind k p g (run.taken + m)) (same_index h c)
          in
          let within : run.taken + m ≤ terms_of p = omega (arith, shared.1, run.within) in (
            lawful_accepted h (known_index h c) (known_within h c) d (Share m) (ready h ∙ opened_at_work h c) (ap (λ (x : List (Bool × Refusal)). first_cause x) (caused h at) ∙ shared.0)
                (λ e. let never : ◌≡◌ {A = ℕ} 0 1 = cc in omega arith) refl
                (accept h (Share m) (ap (λ (x : ℕ). Share x) (shared.1 ∙ ap (λ (x : ℕ). min c' x) (sym (left_at h n kind run.index p g run.taken at))))),
            subst (λ (x : ℕ). Coupled (event d (Share m) ∷ h) t.index (generator_of t.records) (length t.records) (residue_for t.records) x (place_in slots'))
                (sym (same_count (Open run') z))
                (coupled_share h t.index (generator_of t.records) (length t.records) (residue_for t.records) (length slots) (place_in slots) c
                d n named (place_in slots') (kept_places (Open run') z) kind p g run.taken m (place_now h c) now within (found_within slots n (Open run) here)),
          )
      goes_share run' (Err e) z shared h c =
          let same : set (set slots n z) n (Open run') ≡ slots =
          ap (λ (x : Run). set (set slots n z) n (Open x)) shared.1 ∙ put_same slots n (Open run) z here
          in
          subst (λ (x : List Slot). Goes t slots t x d (Refused e)) (sym same)
          (goes_refused d e (λ j k.
          (ready j ∙ opened_at_work j k, ap (λ (x : List (Bool × Refusal)). first_cause x) (caused j (at_work j k)) ∙ shared.0)))
          h
          c

      -- the run is carried on where it stands
      pub goes_taken : (run' : Run) (r : Result ℕ Refusal) (slots' : List Slot) → slots' ≡ set slots n (Open run') → Shared cs c' run run' r
          → Goes t slots t slots' d (share_answer r)
      goes_taken run' r slots' now shared =
          subst (λ (x : List Slot). Goes t slots t x d (share_answer r)) (sym (now ∙ sym (set-set slots n Spent (Open run'))))
          (goes_share run' r Spent shared)

    -- a run that is told of
    pub goes_told : (a : Answer)
        → a ≡ Told run.taken (left_of run) (partial_sum (kind_of run.progress) run.modulus run.generator run.index run.taken)
        → Goes t slots t slots (Tell n) a
    goes_told a answer =
        (subst (λ (x : Answer). Goes t slots t slots (Tell n) x) (sym answer)
        (λ h c.
        let at = at_work h c in
        let kind = kind_of run.progress in
        let p = run.modulus in
        let g = run.generator in
        let told : Answer = Told run.taken (left_of run) (partial_sum kind p g run.index run.taken) in
        let same : told ≡ Told (reported h n) (terms_of p - reported h n) (partial_sum kind p g (index h) (reported h n)) =
        ap (λ (x : ℕ). Told x (terms_of p - x) (partial_sum kind p g run.index x)) (sym at.1)
        ∙ ap (λ (k : ℕ). Told (reported h n) (terms_of p - reported h n) (partial_sum kind p g k (reported h n))) (sym at.5)
        in (
          lawful_accepted h (known_index h c) (known_within h c) (Tell n) told (opened_at_work h c) refl (λ e. let never : ◌≡◌ {A = ℕ} 0 1 = cc in omega arith) refl
              (kind, p, g, run_at h n kind run.index p g run.taken at, same),
          coupled_quiet h t.index (generator_of t.records) (length t.records) (residue_for t.records) (length slots) (place_in slots) c (Tell n) told refl refl refl refl refl,
        )))

    -- a run that is finished: what it gave stands for it
    pub goes_finished : (m : ℕ) (f : FinishedResidue) (mid slots' : List Slot) (o : Outcome) → mid ≡ set slots n Spent → slots' ≡ set mid n (Finished f)
        → o ≡ outcome_of f → Done run m (Ok f) → Goes t slots t slots' (Finish n m) (FinishedWith o)
    goes_finished m f mid slots' o out back is done =
        subst (λ (x : Outcome). Goes t slots t slots' (Finish n m) (FinishedWith x)) (sym is)
        (subst (λ (x : List Slot). Goes t slots t x (Finish n m) (FinishedWith (outcome_of f))) (sym (back ∙ ap (λ (x : List Slot). set x n (Finished f)) out))
        (λ h c.
        let at = at_work h c in
        let kind = kind_of run.progress in
        let p = run.modulus in
        let g = run.generator in
        let a : Answer = FinishedWith (outcome_of f) in
        let new = set (set slots n Spent) n (Finished f) in
        let r = done.1 in (
          lawful_accepted h (known_index h c) (known_within h c) (Finish n m) a (opened_at_work h c)
              (ap (λ (x : List (Bool × Refusal)). first_cause x) (finish_causes_are h n kind run.index p g run.taken at m) ∙ done.0)
              (λ e. let never : ◌≡◌ {A = ℕ} 0 1 = cc in omega arith) refl (
                kind,
                p,
                g,
                outcome_of f,
                run_at h n kind run.index p g run.taken at,
                refl,
                r.kind_is,
                whole_of f (index h) p g (r.index_is ∙ sym at.5) r.modulus_is r.generator_is,
              ),
          subst (λ (x : ℕ). Coupled (event (Finish n m) a ∷ h) t.index (generator_of t.records) (length t.records) (residue_for t.records) x (place_in new))
              (sym (same_count (Finished f) Spent))
              (coupled_finish h t.index (generator_of t.records) (length t.records) (residue_for t.records) (length slots) (place_in slots) c
              (Finish n m) n (λ q. refl) (place_in new) (kept_places (Finished f) Spent) kind p g run.taken (outcome_of f) (place_now h c)
              (new_place (Finished f) Spent) (found_within slots n (Open run) here)),
        )))

    -- a run that is not finished is put back as it was
    pub goes_unfinished : (m : ℕ) (back : Refusal × Run) (mid slots' : List Slot) → mid ≡ set slots n Spent → slots' ≡ set mid n (Open back.1)
        → Done run m (Err back) → Goes t slots t slots' (Finish n m) (Refused back.0)
    goes_unfinished m back mid slots' out put done =
        subst (λ (x : List Slot). Goes t slots t x (Finish n m) (Refused back.0))
        (sym (put ∙ ap (λ (x : List Slot). set x n (Open back.1)) out ∙ ap (λ (x : Run). set (set slots n Spent) n (Open x)) done.1 ∙ put_same slots n (Open run) Spent here))
        (goes_refused (Finish n m) back.0 (λ h c. (
          opened_at_work h c,
          ap (λ (x : List (Bool × Refusal)). first_cause x) (finish_causes_are h n (kind_of run.progress) run.index run.modulus run.generator run.taken (at_work h c) m) ∙ done.0,
        )))

  -- a call on a run that is not open
  pub goes_unopened : (n : ℕ) (d : Deed) (slots' : List Slot) → open_at (place_in slots n) ≡ false → ((h : History) → made h d ≡ is_open h n) → slots' ≡ slots
      → Goes t slots t slots' d NotMade
  goes_unopened n d slots' shut ready same =
      subst (λ (x : List Slot). Goes t slots t x d NotMade) (sym same)
      (goes_not_made d (λ h c. ready h ∙ open_by_place h n (place_in slots n) (c.place_is n) ∙ shut))
