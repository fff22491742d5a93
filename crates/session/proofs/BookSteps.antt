-- Calls on the book go lawfully, by what the book's own calls promise.
-- Main statements: goes_opened, goes_unlisted, goes_filled, goes_unfilled, goes_shown.
-- Assumes nothing.
use Rattle.std.proofs.Common.{◌≡◌, ℕ, suc, ◌<◌, ◌≤◌, Bool, true, false, not, eqb, ◌≢◌, List, [], ◌∷◌, ◌++◌, length, set, is_some, Some, None, Ok, Err, Option, sym, refl, ap, ◌∙◌, subst, ⊎_elim, arith}
use mathlib.Core.Path.{fun_ext}
use Rattle.std.specs.List.{slice_get}
use Rattle.std.proofs.lemmas.List.{length_push, length-set, get_or_push, get_or_append_left}
use Rattle.std.proofs.lemmas.Option.{slice_get-get_or, slice_get_past}
use Rattle.std.proofs.lemmas.Bool.{not-false, eqb-true, cases_lt}
use Rattle.theory.specs.declared.kind.Kind.{Kind}
use Rattle.theory.specs.Kinds.{can_run}
use Rattle.arithmetic.specs.declared.refusal.Refusal.{Refusal}
use Rattle.arithmetic.specs.declared.refusal.Refusal.TheVariants.{OtherGenerator, OtherIndex, NotListed, AlreadyFilled, NotUsable}
use Rattle.arithmetic.specs.Causes.{first_cause}
use Rattle.arithmetic.proofs.Causes.{all_fail, none_since}
use Rattle.run.specs.declared.finished.FinishedResidue.{FinishedResidue}
use Rattle.run.specs.declared.state.Run.{Run}
use Rattle.table.specs.declared.pair.Record.{Record}
use Rattle.table.specs.Chain.{Contents}
use Rattle.table.specs.Filling.{filled}
use Rattle.book.specs.Books.{open_causes, Opened, has_generator, fill_causes, FilledIn, ShownFor}
use Rattle.book.specs.Worked.{record_of, generator_in, generator_of, residue_in, residue_for, waits_not}
use Rattle.book.proofs.Lookups.{listed_generator, filled_generator, filled_residue, filled_residue_other, filled_length}
use Rattle.session.specs.declared.answer.Answer.{Answer}
use Rattle.session.specs.declared.answer.Answer.TheVariants.{Opened as OpenedRun, Filled, Shown, Refused, NotMade}
use Rattle.session.specs.declared.answer.Outcome.{Outcome}
use Rattle.session.specs.declared.slot.Slot.{Slot}
use Rattle.session.specs.declared.slot.Slot.TheVariants.{Open as OpenSlot, Finished, Spent}
use Rattle.session.specs.Events.{Deed, Open, Fill, FillWith, Show}
use Rattle.session.specs.Histories.{History, index, generator_listed, is_unspent}
use Rattle.session.specs.Law.{made, is_listed, is_filled, agrees, residue_causes, causes, Accepted, Lawful}
use Rattle.session.specs.Made.{unspent_at}
use Rattle.session.specs.Sessions.{event, Unopened, AtWork, Ended, PlaceIs, Coupled, outcome_of, slot_place, place_of, place_in, Holds, Goes}
use Rattle.session.proofs.Coupling.{coupled_quiet, coupled_open, coupled_fill, place_filled, all_places, still_fresh, place_kept}
use Rattle.session.proofs.Words.{run_quiet, reported_quiet, given_quiet, generator_quiet, index_quiet, spent_other}
use Rattle.session.proofs.Lawful.{lawful_accepted}
use Rattle.session.proofs.RunSteps.{known_index, known_within, goes_refused, goes_not_made, whole_of}
use Rattle.session.proofs.Steps.{unspent_by_place, shown_accepted}
use Rattle.session.proofs.Taking.{place_at, found_within, put_same, place_set_same, place_set_other}

-- what is told of a record by its generator and its residue
pub same_agrees : (o : Option Record) (g : ℕ) → agrees (generator_in o) g ≡ has_generator o g
same_agrees None g = refl
same_agrees (Some r) g = refl

same_filled : (o : Option Record) → is_some (residue_in o) ≡ waits_not o
same_filled None = refl
same_filled (Some r) = refl

module _ (t : Contents) (slots : List Slot) (h : History) (c : Holds h t slots) where
  listed_is : (p : ℕ) → is_listed h p ≡ is_some (record_of t.records p)
  listed_is p = ap is_some (c.generator_is p) ∙ listed_generator t.records p

  filled_is : (p : ℕ) → is_filled h p ≡ waits_not (record_of t.records p)
  filled_is p = ap is_some (c.residue_is p) ∙ same_filled (record_of t.records p)

  open_causes_are : (kind : Kind) (p : ℕ) → causes h (Open kind p) ≡ open_causes t kind p
  open_causes_are kind p =
      ap (λ (b : Bool). (not b, NotListed) ∷ (is_filled h p, AlreadyFilled) ∷ (not (can_run kind p (index h)), NotUsable) ∷ []) (listed_is p)
      ∙ ap (λ (b : Bool). (not (is_some (record_of t.records p)), NotListed) ∷ (b, AlreadyFilled) ∷ (not (can_run kind p (index h)), NotUsable) ∷ []) (filled_is p)
      ∙ ap (λ (k : ℕ). (not (is_some (record_of t.records p)), NotListed) ∷ (waits_not (record_of t.records p), AlreadyFilled) ∷ (not (can_run kind p k), NotUsable) ∷ []) c.index_is

  fill_causes_are : (o : Outcome) → residue_causes h (Some o) ≡ fill_causes t o.index o.modulus o.generator
  fill_causes_are o =
      let p = o.modulus in
      let g = o.generator in
      let rs = t.records in
      ap (λ (k : ℕ). (not (eqb o.index k), OtherIndex) ∷ (not (is_listed h p), NotListed) ∷ (not (agrees (generator_listed h p) g), OtherGenerator) ∷ (is_filled h p, AlreadyFilled) ∷ []) c.index_is
      ∙ ap (λ (b : Bool). (not (eqb o.index t.index), OtherIndex) ∷ (not b, NotListed) ∷ (not (agrees (generator_listed h p) g), OtherGenerator) ∷ (is_filled h p, AlreadyFilled) ∷ []) (listed_is p)
      ∙ ap (λ (b : Bool). (not (eqb o.index t.index), OtherIndex) ∷ (not (is_some (record_of rs p)), NotListed) ∷ (not b, OtherGenerator) ∷ (is_filled h p, AlreadyFilled) ∷ [])
      (ap (λ (x : Option ℕ). agrees x g) (c.generator_is p) ∙ same_agrees (record_of rs p) g)
      ∙ ap (λ (b : Bool). (not (eqb o.index t.index), OtherIndex) ∷ (not (is_some (record_of rs p)), NotListed) ∷ (not (has_generator (record_of rs p) g), OtherGenerator) ∷ (b, AlreadyFilled) ∷ []) (filled_is p)

-- one run more
push_same : (xs : List Slot) (s : Slot) → place_in (xs ++ s ∷ []) (length xs) ≡ slot_place s
push_same xs s =
    ap place_of (slice_get-get_or (xs ++ s ∷ []) (length xs) s (omega (arith, length_push xs s)) ∙ ap (λ (x : Slot). Some x) (get_or_push xs s s (length xs) refl))

push_other : (xs : List Slot) (s : Slot) (q : ℕ) → q ≢ length xs → place_in (xs ++ s ∷ []) q ≡ place_in xs q
push_other xs s q ne =
    ⊎_elim
    (λ (low : q < length xs).
    ap place_of (slice_get-get_or (xs ++ s ∷ []) q s (omega (arith, length_push xs s)) ∙ ap (λ (x : Slot). Some x) (get_or_append_left xs (s ∷ []) s q low) ∙ sym (slice_get-get_or xs q s low)))
    (λ (high : length xs ≤ q).
    ap place_of (slice_get_past (xs ++ s ∷ []) q (omega (arith, length_push xs s, ne)) ∙ sym (slice_get_past xs q high)))
    (cases_lt q (length xs))

found_generator : (o : Option Record) (g : ℕ) → is_some o ≡ true → has_generator o g ≡ true → generator_in o ≡ Some g
found_generator None g some same = absurd (let z : ◌≡◌ {A = ℕ} 0 1 = cc in omega arith)
found_generator (Some r) g some same = ap (λ (x : ℕ). Some x) (eqb-true r.generator g same)

module _ (t : Contents) (slots : List Slot) where
  first_of : {cs ds : List (Bool × Refusal)} {x : Option Refusal} → cs ≡ ds → first_cause ds ≡ x → first_cause cs ≡ x
  first_of same is = ap (λ (l : List (Bool × Refusal)). first_cause l) same ∙ is

  -- opening a run
  pub goes_opened : (kind : Kind) (p : ℕ) (run : Run) (slots' : List Slot) (number : ℕ) → slots' ≡ slots ++ OpenSlot run ∷ [] → number ≡ length slots
      → Opened t kind p (Ok run) → Goes t slots t slots' (Open kind p) (OpenedRun number)
  goes_opened kind p run slots' number put next opened =
      subst (λ (x : ℕ). Goes t slots t slots' (Open kind p) (OpenedRun x)) (sym next)
      (subst (λ (x : List Slot). Goes t slots t x (Open kind p) (OpenedRun (length slots))) (sym put)
      (λ h c.
      let d : Deed = Open kind p in
      let a : Answer = OpenedRun (length slots) in
      let rs = t.records in
      let g = opened.1.0.generator in
      let s = opened.1.2 in
      let new = slots ++ OpenSlot run ∷ [] in
      let more : suc (length slots) ≡ length new = omega (arith, length_push slots (OpenSlot run)) in
      let place : slot_place (OpenSlot run) ≡ AtWork kind t.index p g 0 =
      let e₁ = s.kind_is in let e₂ = s.index_is in let e₃ = s.modulus_is in let e₄ = s.generator_is in let e₅ = s.taken_is in cc
      in (
        lawful_accepted h (known_index t slots h c) (known_within t slots h c) d a refl (first_of (open_causes_are t slots h c kind p) opened.0)
            (λ e. let never : ◌≡◌ {A = ℕ} 0 1 = cc in omega arith) refl (ap (λ (n : ℕ). OpenedRun n) (sym c.opened_is)),
        subst (λ (n : ℕ). Coupled (event d a ∷ h) t.index (generator_of rs) (length rs) (residue_for rs) n (place_in new)) more
            (coupled_open h t.index (generator_of rs) (length rs) (residue_for rs) (length slots) (place_in slots) c kind p g (place_in new)
            (ap generator_in opened.1.1) (push_same slots (OpenSlot run) ∙ place) (push_other slots (OpenSlot run))),
      )))

  pub goes_unopenable : (kind : Kind) (p : ℕ) (e : Refusal) → Opened t kind p (Err e) → Goes t slots t slots (Open kind p) (Refused e)
  goes_unopenable kind p e opened = goes_refused t slots (Open kind p) e (λ h c. (refl, first_of (open_causes_are t slots h c kind p) opened))

  -- a fill that is made, where what stands for each run afterwards is known
  fill_made : {T : Type 0} (d : Deed) (f : FinishedResidue) (t' : Contents) (x : T) (slots' : List Slot) → FilledIn t t' f (Ok x) → length slots' ≡ length slots
      → (h : History) → Holds h t slots → made h d ≡ true → causes h d ≡ residue_causes h (Some (outcome_of f)) → Accepted h d (Filled (outcome_of f))
      → ((q : ℕ) → length slots ≤ q → place_in slots' q ≡ Unopened) → ((q : ℕ) → PlaceIs (event d (Filled (outcome_of f)) ∷ h) q (place_in slots' q))
      → Lawful h d (Filled (outcome_of f)) × Holds (event d (Filled (outcome_of f)) ∷ h) t' slots'
  fill_made d f t' x slots' done count h c ready cause accepted fresh places =
      let o : Outcome = outcome_of f in
      let rs = t.records in
      let p = f.modulus in
      let g = f.generator in
      let v = f.residue in
      let n = done.1.0 in
      let number = done.1.1 in
      let all = all_fail (fill_causes t f.index p g) done.0 in
      let listed = found_generator (record_of rs p) g (not-false _ all.1.0) (not-false _ all.1.1.0) in
      let waits : residue_for rs p ≡ None = none_since (residue_for rs p) (same_filled (record_of rs p) ∙ all.1.1.1.0) in
      let whole = whole_of f t.index p g (eqb-true f.index t.index (not-false _ all.0)) refl refl in
      let t'' = filled t n v in
      let now = coupled_fill h t.index (generator_of rs) (length rs) (residue_for rs) (length slots) (place_in slots) c d o g (residue_for t''.records) (place_in slots')
      listed whole waits (filled_residue t n v p number) (filled_residue_other t n v p number) fresh places in
      let E = event d (Filled o) ∷ h in
      let by-generator : Coupled E t.index (generator_of t''.records) (length rs) (residue_for t''.records) (length slots) (place_in slots') =
      subst (λ (y : ℕ → Option ℕ). Coupled E t.index y (length rs) (residue_for t''.records) (length slots) (place_in slots'))
      (fun_ext (λ q. sym (filled_generator t n v p number q))) now
      in
      let by_count : Coupled E t.index (generator_of t''.records) (length t''.records) (residue_for t''.records) (length slots) (place_in slots') =
      subst (λ (y : ℕ). Coupled E t.index (generator_of t''.records) y (residue_for t''.records) (length slots) (place_in slots')) (sym (filled_length t n v)) by-generator
      in
      let by_runs : Holds E t'' slots' =
      subst (λ (y : ℕ). Coupled E t.index (generator_of t''.records) (length t''.records) (residue_for t''.records) y (place_in slots')) (sym count) by_count
      in (
        lawful_accepted h (known_index t slots h c) (known_within t slots h c) d (Filled o) ready (first_of (cause ∙ fill_causes_are t slots h c o) done.0)
            (λ e. let never : ◌≡◌ {A = ℕ} 0 1 = cc in omega arith) refl accepted,
        subst (λ (y : Contents). Holds E y slots') (sym done.1.2) by_runs,
      )

  -- filling in a residue from elsewhere
  pub goes_filled_with : {T : Type 0} (f : FinishedResidue) (t' : Contents) (x : T) → FilledIn t t' f (Ok x)
      → Goes t slots t' slots (FillWith (outcome_of f)) (Filled (outcome_of f))
  goes_filled_with f t' x done h c =
      let d : Deed = FillWith (outcome_of f) in
      let a : Answer = Filled (outcome_of f) in
      fill_made d f t' x slots done refl h c refl refl refl c.fresh
      (λ q. place_kept h (event d a ∷ h) q (place_in slots q) (run_quiet d a h refl q) (reported_quiet d a h refl q) (given_quiet d a h refl q) (spent_other d a h q refl)
      (generator_quiet d a h refl) (index_quiet d a h refl) (c.place_is q))

  pub goes_unfilled_with : (T : Type 0) (f : FinishedResidue) (t' : Contents) (back : Refusal × FinishedResidue) → FilledIn t t' f {T = T} (Err back)
      → Goes t slots t' slots (FillWith (outcome_of f)) (Refused back.0)
  goes_unfilled_with T f t' back done =
      subst (λ (x : Contents). Goes t slots x slots (FillWith (outcome_of f)) (Refused back.0)) (sym done.2)
      (goes_refused t slots (FillWith (outcome_of f)) back.0 (λ h c. (refl, first_of (fill_causes_are t slots h c (outcome_of f)) done.0)))

  -- filling in what a run gave
  module _ (n : ℕ) (f : FinishedResidue) (here : slice_get slots n ≡ Some (Finished f)) where
    ended : (h : History) → Holds h t slots → PlaceIs h n (Ended (outcome_of f))
    ended h c = subst (PlaceIs h n) (place_at slots n (Finished f) here) (c.place_is n)

    ready_to_fill : (h : History) → Holds h t slots → is_unspent h n ≡ true
    ready_to_fill h c = unspent_by_place h n (Ended (outcome_of f)) (ended h c)

    given_causes : (h : History) → Holds h t slots → causes h (Fill n) ≡ residue_causes h (Some (outcome_of f))
    given_causes h c = ap (residue_causes h) (ended h c).0

    pub goes_filled : {T : Type 0} (t' : Contents) (x : T) (slots' : List Slot) (o : Outcome) → slots' ≡ set slots n Spent → o ≡ outcome_of f → FilledIn t t' f (Ok x)
        → Goes t slots t' slots' (Fill n) (Filled o)
    goes_filled t' x slots' o out is done =
        subst (λ (y : Outcome). Goes t slots t' slots' (Fill n) (Filled y)) (sym is)
        (subst (λ (y : List Slot). Goes t slots t' y (Fill n) (Filled (outcome_of f))) (sym out)
        (λ h c.
        let rs = t.records in
        let d : Deed = Fill n in
        let a : Answer = Filled (outcome_of f) in
        let new = set slots n Spent in
        let low = found_within slots n (Finished f) here in
        let kept : (q : ℕ) → q ≢ n → place_in new q ≡ place_in slots q = λ q ne. place_set_other slots n q Spent ne in
        fill_made d f t' x new done (length-set slots n Spent) h c (ready_to_fill h c) (given_causes h c) (outcome_of f, (ended h c).0, refl)
        (still_fresh h t.index (generator_of rs) (length rs) (residue_for rs) (length slots) (place_in slots) c d n (λ q. refl) (place_in new) kept low)
        (all_places h t.index (generator_of rs) (length rs) (residue_for rs) (length slots) (place_in slots) c d n (λ q. refl) (place_in new) kept a refl refl
        (place_filled h t.index (generator_of rs) (length rs) (residue_for rs) (length slots) (place_in slots) c d n (λ q. refl) (place_in new) kept (outcome_of f) (outcome_of f)
        (place_at slots n (Finished f) here) (place_set_same slots n Spent low)))))

    pub goes_unfilled : (T : Type 0) (t' : Contents) (back : Refusal × FinishedResidue) (mid slots' : List Slot) → mid ≡ set slots n Spent
        → slots' ≡ set mid n (Finished back.1) → FilledIn t t' f {T = T} (Err back) → Goes t slots t' slots' (Fill n) (Refused back.0)
    goes_unfilled T t' back mid slots' out put done =
        let same : slots' ≡ slots =
        put ∙ ap (λ (x : List Slot). set x n (Finished back.1)) out ∙ ap (λ (x : FinishedResidue). set (set slots n Spent) n (Finished x)) done.1 ∙ put_same slots n (Finished f) Spent here
        in
        subst (λ (x : List Slot). Goes t slots t' x (Fill n) (Refused back.0)) (sym same)
        (subst (λ (x : Contents). Goes t slots x slots (Fill n) (Refused back.0)) (sym done.2)
        (goes_refused t slots (Fill n) back.0 (λ h c. (ready_to_fill h c, first_of (given_causes h c ∙ fill_causes_are t slots h c (outcome_of f)) done.0))))

  -- nothing to fill in
  pub goes_spent : (n : ℕ) (slots' : List Slot) → unspent_at (place_in slots n) ≡ false → slots' ≡ slots → Goes t slots t slots' (Fill n) NotMade
  goes_spent n slots' shut same =
      subst (λ (x : List Slot). Goes t slots t x (Fill n) NotMade) (sym same)
      (goes_not_made t slots (Fill n) (λ h c. unspent_by_place h n (place_in slots n) (c.place_is n) ∙ shut))

  -- showing
  show_none : (h : History) → Holds h t slots → (p : ℕ) (r : Record) → record_of t.records p ≡ Some r → first_cause (causes h (Show p)) ≡ None
  show_none h c p r is =
      ap (λ (b : Bool). first_cause ((not b, NotListed) ∷ [])) (listed_is t slots h c p ∙ ap is_some is)

  pub goes_shown : (p : ℕ) (o : Option ℕ) → ShownFor t p (Ok o) → Goes t slots t slots (Show p) (Shown o)
  goes_shown p o s h c = (
    lawful_accepted h (known_index t slots h c) (known_within t slots h c) (Show p) (Shown o) refl (show_none h c p s.0 s.1) (λ e. let never : ◌≡◌ {A = ℕ} 0 1 = cc in omega arith) refl
        (shown_accepted h t.index (generator_of t.records) (length t.records) (residue_for t.records) (length slots) (place_in slots) c p s.0.generator o
        (ap generator_in s.1) (ap residue_in s.1 ∙ sym s.2)),
    coupled_quiet h t.index (generator_of t.records) (length t.records) (residue_for t.records) (length slots) (place_in slots) c (Show p) (Shown o) refl refl refl refl refl,
  )

  pub goes_unlisted : (p : ℕ) (e : Refusal) → ShownFor t p (Err e) → Goes t slots t slots (Show p) (Refused e)
  goes_unlisted p e s =
      goes_refused t slots (Show p) e (λ h c. (
        refl,
        ap (λ (b : Bool). first_cause ((not b, NotListed) ∷ [])) (listed_is t slots h c p ∙ ap is_some s.0) ∙ ap (λ (x : Refusal). Some x) (sym s.1),
      ))
