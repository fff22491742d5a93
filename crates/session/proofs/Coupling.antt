-- Histories coupled with what a session holds: what the history tells is what is there.
-- Main statements: coupled_none, coupled_quiet, and one -step for each event that changes something.
-- Assumes nothing.
use Rattle.std.proofs.Common.{◌≡◌, ℕ, suc, ◌+◌, ◌<◌, ◌≤◌, Bool, true, false, cond, ◌&&◌, eqb, ◌≢◌, [], ◌∷◌, is_some, Some, None, Option, unwrap_or, sym, refl, ap, ◌∙◌, subst, inl, inr, ⊎_elim, add_comm, arith}
use Rattle.std.proofs.lemmas.Bool.{eq-eqb, ne_eqb, cases_eq}
use Rattle.theory.specs.declared.kind.Kind.{Kind}
use Rattle.theory.specs.Direct.{terms_of}
use Rattle.arithmetic.specs.Causes.{index_stands}
use Rattle.session.specs.declared.answer.Answer.{Answer}
use Rattle.session.specs.declared.answer.Answer.TheVariants.{Done, Opened, Share, Finished, Filled}
use Rattle.session.specs.declared.answer.Outcome.{Outcome}
use Rattle.session.specs.Events.{Deed, Begin, Enter, Open, Event, enters, enters_pair, opens, names, is_done, run_in, share_in, given_in, filled_in}
use Rattle.session.specs.Histories.{History, where_so, newest, total, begun, index, since_begin, generator_listed, is_number, run_opened, reported, given, spent, residue_by, Among}
use Rattle.session.specs.Law.{Whole}
use Rattle.session.specs.Sessions.{event, Place, Unopened, AtWork, Ended, Used, PlaceIs, FilledBy, Coupled}
use Rattle.session.proofs.Words.{newest_quiet, newest_told, total_more, is_so, since_quiet, index_quiet, generator_quiet, count_quiet, openings_quiet, run_quiet, reported_quiet, given_quiet, spent_quiet, residue_quiet, reported_other, given_other, spent_other, fill_quiet}

-- a place that the words of two histories tell alike
pub place_kept : (h h' : History) (r : ℕ) (s : Place) → run_opened h' r ≡ run_opened h r → reported h' r ≡ reported h r → given h' r ≡ given h r
    → spent h' r ≡ spent h r → ((p : ℕ) → generator_listed h' p ≡ generator_listed h p) → index h' ≡ index h → PlaceIs h r s → PlaceIs h' r s
place_kept h h' r Unopened run terms gave used listed same at = (run ∙ at.0, terms ∙ at.1, gave ∙ at.2, used ∙ at.3)
place_kept h h' r (AtWork kind k p g t) run terms gave used listed same at =
    (run ∙ at.0, terms ∙ at.1, gave ∙ at.2, used ∙ at.3, listed p ∙ at.4, same ∙ at.5, at.6)
place_kept h h' r (Ended o) run terms gave used listed same at = (gave ∙ at.0, used ∙ at.1)
place_kept h h' r Used run terms gave used listed same at =
    (ap (λ (o : Option Outcome). is_some o) gave ∙ at.0, ap (λ (o : Option Outcome). is_some o) used ∙ at.1)

pub filled_by_kept : (e : Event) (h : History) (k : ℕ) (generator : ℕ → Option ℕ) (p x : ℕ) → FilledBy h k generator p x → FilledBy (e ∷ h) k generator p x
filled_by_kept e h k generator p x f = record {
  outcome = f.outcome;
  call = f.call;
  g = f.g;
  happened = inr f.happened;
  listed = f.listed;
  residue_is = f.residue_is;
  whole = f.whole;
}

-- nothing has happened yet
pub coupled_none : Coupled [] 2 (λ _. None) 0 (λ _. None) 0 (λ _. Unopened)
unfolding since_begin newest total
coupled_none = record {
  index_is = refl;
  stands = refl;
  generator_is = λ p. refl;
  count_is = refl;
  residue_is = λ p. refl;
  opened_is = refl;
  fresh = λ r _. refl;
  place_is = λ r. (refl, refl, refl, refl);
  fills_are = λ p x f. absurd f.happened;
  worked = λ p x e. absurd (let z : ◌≡◌ {A = ℕ} 0 1 = cc in omega arith);
}

module _ (h : History) (k : ℕ) (generator : ℕ → Option ℕ) (count : ℕ) (residue : ℕ → Option ℕ) (opened : ℕ) (place : ℕ → Place) (coupled : Coupled h k generator count residue opened place) where
  -- an event that tells nothing changes nothing
  pub coupled_quiet : (d : Deed) (a : Answer) → is_done a ≡ false → run_in a ≡ None → share_in a ≡ None → given_in a ≡ None → filled_in a ≡ None
      → Coupled (event d a ∷ h) k generator count residue opened place
  coupled_quiet d a done run terms gave used = record {
    index_is = index_quiet d a h done ∙ coupled.index_is;
    stands = coupled.stands;
    generator_is = λ p. generator_quiet d a h done p ∙ coupled.generator_is p;
    count_is = count_quiet d a h done ∙ coupled.count_is;
    residue_is = λ p. residue_quiet d a h used p ∙ coupled.residue_is p;
    opened_is = openings_quiet d a h run ∙ coupled.opened_is;
    fresh = coupled.fresh;
    place_is = λ r.
        place_kept h (event d a ∷ h) r (place r) (run_quiet d a h run r) (reported_quiet d a h terms r) (given_quiet d a h gave r)
        (spent_quiet d a h used r) (generator_quiet d a h done) (index_quiet d a h done) (coupled.place_is r);
    fills_are = λ p x f. coupled.fills_are p x (fill_quiet d a h used p x f);
    worked = λ p x e. filled_by_kept (event d a) h k generator p x (coupled.worked p x e);
  }

  -- a call on the run r that puts nothing into the book: what stands for another run stays
  module _ (d : Deed) (r : ℕ) (named : (q : ℕ) → names q d ≡ eqb r q) (place' : ℕ → Place) (kept : (q : ℕ) → q ≢ r → place' q ≡ place q) where
    pub named_here : names r d ≡ true
    named_here = named r ∙ eq-eqb r r refl

    -- a run that the call does not name stands as it did
    pub other_place : (a : Answer) → is_done a ≡ false → run_in a ≡ None → (q : ℕ) → q ≢ r → PlaceIs (event d a ∷ h) q (place' q)
    other_place a done run q ne =
        let other : names q d ≡ false = named q ∙ ne_eqb r q (λ e. ne (sym e)) in
        subst (PlaceIs (event d a ∷ h) q) (sym (kept q ne))
        (place_kept h (event d a ∷ h) q (place q) (run_quiet d a h run q) (reported_other d a h q other) (given_other d a h q other)
        (spent_other d a h q other) (generator_quiet d a h done) (index_quiet d a h done) (coupled.place_is q))

    pub all_places : (a : Answer) → is_done a ≡ false → run_in a ≡ None → PlaceIs (event d a ∷ h) r (place' r) → (q : ℕ) → PlaceIs (event d a ∷ h) q (place' q)
    all_places a done run here q =
        ⊎_elim
        (λ (e : q ≡ r). subst (λ (z : ℕ). PlaceIs (event d a ∷ h) z (place' z)) (sym e) here)
        (λ (ne : q ≡ r → ⊥). other_place a done run q ne)
        (cases_eq q r)

    pub still_fresh : r < opened → (q : ℕ) → opened ≤ q → place' q ≡ Unopened
    still_fresh low q high = kept q (λ e. omega arith) ∙ coupled.fresh q high

    pub coupled_run : (a : Answer) → is_done a ≡ false → run_in a ≡ None → filled_in a ≡ None → r < opened → PlaceIs (event d a ∷ h) r (place' r)
        → Coupled (event d a ∷ h) k generator count residue opened place'
    coupled_run a done run used low here = record {
      index_is = index_quiet d a h done ∙ coupled.index_is;
      stands = coupled.stands;
      generator_is = λ q. generator_quiet d a h done q ∙ coupled.generator_is q;
      count_is = count_quiet d a h done ∙ coupled.count_is;
      residue_is = λ q. residue_quiet d a h used q ∙ coupled.residue_is q;
      opened_is = openings_quiet d a h run ∙ coupled.opened_is;
      fresh = still_fresh low;
      place_is = all_places a done run here;
      fills_are = λ q x f. coupled.fills_are q x (fill_quiet d a h used q x f);
      worked = λ q x e. filled_by_kept (event d a) h k generator q x (coupled.worked q x e);
    }

    -- the run r has taken n terms more
    pub coupled_share : (kind : Kind) (p g t n : ℕ) → place r ≡ AtWork kind k p g t → place' r ≡ AtWork kind k p g (t + n) → t + n ≤ terms_of p → r < opened
        → Coupled (event d (Share n) ∷ h) k generator count residue opened place'
    coupled_share kind p g t n was now within low =
        let a : Answer = Share n in
        let at : PlaceIs h r (AtWork kind k p g t) = subst (PlaceIs h r) was (coupled.place_is r) in
        let told : Event → ℕ = λ e. unwrap_or (where_so (names r e.deed) (share_in e.answer)) 0 in
        coupled_run a refl refl refl low (subst (PlaceIs (event d a ∷ h) r) (sym now) (
          run_quiet d a h refl r ∙ at.0,
          total_more told (event d a) h n (ap (λ (o : Option ℕ). unwrap_or o 0) (is_so (names r d) (Some n) named_here))
              ∙ ap (λ (m : ℕ). n + m) at.1
              ∙ add_comm n t,
          given_quiet d a h refl r ∙ at.2,
          spent_quiet d a h refl r ∙ at.3,
          generator_quiet d a h refl p ∙ at.4,
          index_quiet d a h refl ∙ at.5,
          within,
        ))

    -- finishing the run r gave an outcome
    pub coupled_finish : (kind : Kind) (p g t : ℕ) (o : Outcome) → place r ≡ AtWork kind k p g t → place' r ≡ Ended o → r < opened
        → Coupled (event d (Finished o) ∷ h) k generator count residue opened place'
    coupled_finish kind p g t o was now low =
        let a : Answer = Finished o in
        let at : PlaceIs h r (AtWork kind k p g t) = subst (PlaceIs h r) was (coupled.place_is r) in
        let told : Event → Option Outcome = λ e. where_so (names r e.deed) (given_in e.answer) in
        coupled_run a refl refl refl low (subst (PlaceIs (event d a ∷ h) r) (sym now) (
          newest_told told (event d a) h o (is_so (names r d) (Some o) named_here),
          spent_quiet d a h refl r ∙ at.3,
        ))

    -- what the run r gave was filled in
    pub place_filled : (o o' : Outcome) → place r ≡ Ended o' → place' r ≡ Used → PlaceIs (event d (Filled o) ∷ h) r (place' r)
    place_filled o o' was now =
        let a : Answer = Filled o in
        let at : PlaceIs h r (Ended o') = subst (PlaceIs h r) was (coupled.place_is r) in
        let told : Event → Option Outcome = λ e. where_so (names r e.deed) (filled_in e.answer) in
        subst (PlaceIs (event d a ∷ h) r) (sym now) (
          ap (λ (x : Option Outcome). is_some x) (given_quiet d a h refl r ∙ at.0),
          ap (λ (x : Option Outcome). is_some x) (newest_told told (event d a) h o (is_so (names r d) (Some o) named_here)),
        )

  -- a fill put an outcome into the record of its modulus, which waited
  pub coupled_fill : (d : Deed) (o : Outcome) (g : ℕ) (residue' : ℕ → Option ℕ) (place' : ℕ → Place)
      → generator o.modulus ≡ Some g → Whole k o.modulus g o → residue o.modulus ≡ None
      → residue' o.modulus ≡ Some o.residue → ((q : ℕ) → q ≢ o.modulus → residue' q ≡ residue q)
      → ((q : ℕ) → opened ≤ q → place' q ≡ Unopened) → ((q : ℕ) → PlaceIs (event d (Filled o) ∷ h) q (place' q))
      → Coupled (event d (Filled o) ∷ h) k generator count residue' opened place'
  coupled_fill d o g residue' place' listed whole waits now others fresh places =
      let a : Answer = Filled o in
      let p : ℕ = o.modulus in
      let told : (q : ℕ) → Event → Option ℕ = λ q e. residue_by q (filled_in e.answer) in
      record {
        index_is = index_quiet d a h refl ∙ coupled.index_is;
        stands = coupled.stands;
        generator_is = λ q. generator_quiet d a h refl q ∙ coupled.generator_is q;
        count_is = count_quiet d a h refl ∙ coupled.count_is;
        residue_is = λ q.
            ⊎_elim
            (λ (e : q ≡ p).
            newest_told (told q) (event d a) h o.residue (ap (λ (b : Bool). cond b (Some o.residue) None) (eq-eqb p q (sym e)))
            ∙ sym now
            ∙ ap residue' (sym e))
            (λ (ne : q ≡ p → ⊥).
            newest_quiet (told q) (event d a) h (ap (λ (b : Bool). cond b (Some o.residue) None) (ne_eqb p q (λ e. ne (sym e))))
            ∙ coupled.residue_is q
            ∙ sym (others q ne))
            (cases_eq q p);
        opened_is = openings_quiet d a h refl ∙ coupled.opened_is;
        fresh = fresh;
        place_is = places;
        fills_are = λ q x f.
            ⊎_elim
            (λ (e : event d a ≡ event f.call (Filled f.outcome)).
            let some : Some o ≡ Some f.outcome = ap (λ (y : Event). filled_in y.answer) e in
            let same : o ≡ f.outcome = cc in
            let here : p ≡ q = ap (λ (y : Outcome). y.modulus) same ∙ f.modulus_is in
            let value : o.residue ≡ x = ap (λ (y : Outcome). y.residue) same ∙ f.residue_is in
            ap residue' (sym here) ∙ now ∙ ap Some value)
            (λ (among : Among (event f.call (Filled f.outcome)) h).
            let before : residue q ≡ Some x = coupled.fills_are q x (record { call = f.call; outcome = f.outcome; happened = among; modulus_is = f.modulus_is; residue_is = f.residue_is }) in
            others q (λ e.
            let never : None ≡ Some x = sym waits ∙ ap residue (sym e) ∙ before in
            (let z : ◌≡◌ {A = ℕ} 0 1 = cc in omega arith))
            ∙ before)
            f.happened;
        worked = λ q x e.
            ⊎_elim
            (λ (same : q ≡ p).
            let some : Some o.residue ≡ Some x = sym now ∙ ap residue' (sym same) ∙ e in
            let value : o.residue ≡ x = cc in
            record {
              outcome = o;
              call = d;
              g = g;
              happened = inl refl;
              listed = ap generator same ∙ listed;
              residue_is = value;
              whole = subst (λ (z : ℕ). Whole k z g o) (sym same) whole;
            })
            (λ (ne : q ≡ p → ⊥). filled_by_kept (event d a) h k generator q x (coupled.worked q x (sym (others q ne) ∙ e)))
            (cases_eq q p);
      }

  -- a run was opened: it has the next number
  pub coupled_open : (kind : Kind) (p g : ℕ) (place' : ℕ → Place) → generator p ≡ Some g → place' opened ≡ AtWork kind k p g 0
      → ((q : ℕ) → q ≢ opened → place' q ≡ place q) → Coupled (event (Open kind p) (Opened opened) ∷ h) k generator count residue (suc opened) place'
  coupled_open kind p g place' listed now kept =
      let d : Deed = Open kind p in
      let a : Answer = Opened opened in
      let told : (q : ℕ) → Event → Option (Kind × ℕ) = λ q e. where_so (is_number q (run_in e.answer)) (opens e.deed) in
      let was : PlaceIs h opened Unopened = subst (PlaceIs h opened) (coupled.fresh opened (omega arith)) (coupled.place_is opened) in
      record {
        index_is = index_quiet d a h refl ∙ coupled.index_is;
        stands = coupled.stands;
        generator_is = λ q. generator_quiet d a h refl q ∙ coupled.generator_is q;
        count_is = count_quiet d a h refl ∙ coupled.count_is;
        residue_is = λ q. residue_quiet d a h refl q ∙ coupled.residue_is q;
        opened_is = let e = total_more (λ x. cond (is_some (run_in x.answer)) 1 0) (event d a) h 1 refl in omega (arith, e, coupled.opened_is);
        fresh = λ q high. kept q (λ e. omega arith) ∙ coupled.fresh q (omega arith);
        place_is = λ q.
            ⊎_elim
            (λ (e : q ≡ opened).
            subst (λ (z : ℕ). PlaceIs (event d a ∷ h) z (place' z)) (sym e)
            (subst (PlaceIs (event d a ∷ h) opened) (sym now) (
              newest_told (told opened) (event d a) h (kind, p) (ap (λ (b : Bool). cond b (Some (kind, p)) None) (eq-eqb opened opened refl)),
              reported_quiet d a h refl opened ∙ was.1,
              given_quiet d a h refl opened ∙ was.2,
              spent_quiet d a h refl opened ∙ was.3,
              generator_quiet d a h refl p ∙ coupled.generator_is p ∙ listed,
              index_quiet d a h refl ∙ coupled.index_is,
              omega arith,
            )))
            (λ (ne : q ≡ opened → ⊥).
            subst (PlaceIs (event d a ∷ h) q) (sym (kept q ne))
            (place_kept h (event d a ∷ h) q (place q)
            (newest_quiet (told q) (event d a) h (ap (λ (b : Bool). cond b (Some (kind, p)) None) (ne_eqb opened q (λ e. ne (sym e)))))
            (reported_quiet d a h refl q) (given_quiet d a h refl q) (spent_quiet d a h refl q) (generator_quiet d a h refl) (index_quiet d a h refl)
            (coupled.place_is q)))
            (cases_eq q opened);
        fills_are = λ q x f. coupled.fills_are q x (fill_quiet d a h refl q x f);
        worked = λ q x e. filled_by_kept (event d a) h k generator q x (coupled.worked q x e);
      }

  -- before release no run is opened and every record waits
  module _ (none : opened ≡ 0) (waiting : (p : ℕ) → residue p ≡ None) where
    unopened : (r : ℕ) → place r ≡ Unopened
    unopened r = coupled.fresh r (omega arith)

    -- a listing call leaves it so
    listing_place : (d : Deed) (r : ℕ) → PlaceIs (event d Done ∷ h) r (place r)
    listing_place d r =
        let at : PlaceIs h r Unopened = subst (PlaceIs h r) (unopened r) (coupled.place_is r) in
        subst (PlaceIs (event d Done ∷ h) r) (sym (unopened r)) (
          run_quiet d Done h refl r ∙ at.0,
          reported_quiet d Done h refl r ∙ at.1,
          given_quiet d Done h refl r ∙ at.2,
          spent_quiet d Done h refl r ∙ at.3,
        )

    never_filled : (p x : ℕ) → residue p ≡ Some x → ⊥
    never_filled p x e =
        let never : None ≡ Some x = sym (waiting p) ∙ e in
        (let z : ◌≡◌ {A = ℕ} 0 1 = cc in omega arith)

    pub coupled_begin : (j : ℕ) → index_stands j ≡ true → Coupled (event (Begin j) Done ∷ h) j (λ _. None) 0 residue opened place
    unfolding since_begin newest total
    coupled_begin j fit = record {
      index_is = refl;
      stands = fit;
      generator_is = λ p. refl;
      count_is = refl;
      residue_is = λ p. residue_quiet (Begin j) Done h refl p ∙ coupled.residue_is p;
      opened_is = openings_quiet (Begin j) Done h refl ∙ coupled.opened_is;
      fresh = coupled.fresh;
      place_is = listing_place (Begin j);
      fills_are = λ p x f. coupled.fills_are p x (fill_quiet (Begin j) Done h refl p x f);
      worked = λ p x e. absurd (never_filled p x e);
    }

    pub coupled_enter : (p g : ℕ) (generator' : ℕ → Option ℕ) (count' : ℕ) → generator' p ≡ Some g → ((q : ℕ) → q ≢ p → generator' q ≡ generator q)
        → count' ≡ suc count → Coupled (event (Enter p g) Done ∷ h) k generator' count' residue opened place
    coupled_enter p g generator' count' now others more =
        let d : Deed = Enter p g in
        let told : (q : ℕ) → Event → Option ℕ = λ q e. where_so (is_done e.answer) (enters q e.deed) in
        let since : since_begin (event d Done ∷ h) ≡ event d Done ∷ since_begin h = since_quiet (event d Done) h refl in
        record {
          index_is = ap (λ (o : Option ℕ). unwrap_or o 2) (newest_quiet begun (event d Done) h refl) ∙ coupled.index_is;
          stands = coupled.stands;
          generator_is = λ q.
              ap (newest (told q)) since
              ∙ ⊎_elim
              (λ (e : q ≡ p).
              newest_told (told q) (event d Done) (since_begin h) g (ap (λ (b : Bool). where_so true (cond b (Some g) None)) (eq-eqb p q (sym e)))
              ∙ sym now
              ∙ ap generator' (sym e))
              (λ (ne : q ≡ p → ⊥).
              newest_quiet (told q) (event d Done) (since_begin h) (ap (λ (b : Bool). where_so true (cond b (Some g) None)) (ne_eqb p q (λ e. ne (sym e))))
              ∙ coupled.generator_is q
              ∙ sym (others q ne))
              (cases_eq q p);
          count_is =
              let f : Event → ℕ = λ e. cond (is_done e.answer && enters_pair e.deed) 1 0 in
              let a = ap (total f) since in
              let b = total_more f (event d Done) (since_begin h) 1 refl in
              omega (arith, a, b, coupled.count_is);
          residue_is = λ q. residue_quiet d Done h refl q ∙ coupled.residue_is q;
          opened_is = openings_quiet d Done h refl ∙ coupled.opened_is;
          fresh = coupled.fresh;
          place_is = listing_place d;
          fills_are = λ q x f. coupled.fills_are q x (fill_quiet d Done h refl q x f);
          worked = λ q x e. absurd (never_filled q x e);
        }
