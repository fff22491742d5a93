-- Lawful events, and histories of lawful events.
-- Main statements: law_none, law_more, lawful_refused, lawful_not_made, lawful_accepted, shown_accepted.
-- Assumes nothing.
use Rattle.std.proofs.Common.{◌≡◌, ℕ, ◌-◌, ◌%◌, ◌<◌, ◌≤◌, Bool, true, false, not, ◌&&◌, eqb, leb, ◌⊎◌, ◌↔◌, List, [], ◌∷◌, ◌++◌, is_some, Some, None, Option, sym, refl, ap, ◌∙◌, subst, inl, inr, ⊎_elim, arith}
use Rattle.std.specs.List.{AllByRecursion as All}
use Rattle.std.proofs.lemmas.Bool.{eq-eqb, eqb-true, cases_Bool, and_parts, not-false, leb-false, lt-leb, leb-true, le-leb, ltb-false, le-ltb, not_from_true, both_ways}
use Rattle.theory.specs.Direct.{terms_of}
use Rattle.theory.specs.Pairs.{Fit}
use Rattle.arithmetic.specs.declared.refusal.Refusal.{Refusal}
use Rattle.arithmetic.specs.declared.refusal.Refusal.TheVariants.{CellCount, OtherArithmetic, OtherSource, Share, DirectRun, NoTermLeft}
use Rattle.arithmetic.specs.Refusals.{refusal_number}
use Rattle.arithmetic.proofs.Causes.{all_fail, none_first, none_since}
use Rattle.arithmetic.specs.Causes.{first_cause, index_stands, modulus_fits, generator_fits, index_fits}
use Rattle.run.specs.Calls.{unfit_share}
use Rattle.table.proofs.Listed.{decides_modulus, decides_generator}
use Rattle.session.specs.declared.answer.Answer.{Answer}
use Rattle.session.specs.declared.answer.Answer.TheVariants.{Refused, NotMade}
use Rattle.session.specs.declared.answer.Outcome.{Outcome}
use Rattle.session.specs.Events.{Deed, Begin, Enter, Open, CarryOn, CountOn, Finish, Tell, Fill, FillWith, Show, Event, names, refusal_in}
use Rattle.session.specs.Histories.{History, index, generator_listed, listed_count, run_opened, reported, given, run_modulus, run_left, is_open}
use Rattle.session.specs.Law.{residue_causes, directly, made, is_listed, causes, Accepted, Lawful, Law}
use Rattle.session.proofs.Words.{listing_kept}
use Rattle.session.specs.Sessions.{event}

-- no event has happened, and one more lawful event
cons_clash : (later past : History) (e : Event) → ◌≡◌ {A = History} [] (later ++ e ∷ past) → ⊥
cons_clash [] past e same = let z : ◌≡◌ {A = ℕ} 0 1 = cc in omega arith
cons_clash (x ∷ later) past e same = let z : ◌≡◌ {A = ℕ} 0 1 = cc in omega arith

pub law_none : Law []
law_none later past d a same = absurd (cons_clash later past (event d a) same)

pub law_more : (h : History) (d : Deed) (a : Answer) → Law h → Lawful h d a → Law (event d a ∷ h)
law_more h d a law lawful [] past d' a' same =
    let tails : h ≡ past = cc in
    let heads : event d a ≡ event d' a' = cc in
    subst (λ (x : History). Lawful x d' a') tails
    (subst (λ (x : Event). Lawful h x.deed x.answer) heads lawful)
law_more h d a law lawful (x ∷ later) past d' a' same =
    let tails : h ≡ later ++ event d' a' ∷ past = cc in
    law later past d' a' tails

-- a cause that was found: the first, or one behind it
some_parts : {X : Type 0} (b : Bool) (x y : X) (cs : List (Bool × X)) → first_cause ((b, x) ∷ cs) ≡ Some y → ((b ≡ true) × (x ≡ y)) ⊎ (first_cause cs ≡ Some y)
some_parts true x y cs e = inl (refl, cc)
some_parts false x y cs e = inr e

-- the refusal for want of terms
abbrev wants : Refusal → Bool
wants e = eqb (refusal_number e) 17

-- where no cause wants terms, none is found that does; and where only the last does, it holds
never_cause : (cs : List (Bool × Refusal)) → All (λ t. wants t.1 ≡ false) cs → first_cause cs ≡ Some NoTermLeft → ⊥
never_cause [] others e = let z : ◌≡◌ {A = ℕ} 0 1 = cc in omega arith
never_cause (t ∷ cs) others e =
    ⊎_elim
    (λ (f : (t.0 ≡ true) × (t.1 ≡ NoTermLeft)). both_ways (wants t.1) others.0 (ap wants f.1))
    (λ (f : first_cause cs ≡ Some NoTermLeft). never_cause cs others.1 f)
    (some_parts t.0 t.1 NoTermLeft cs e)

sole_cause : (cs : List (Bool × Refusal)) → All (λ t. wants t.1 ≡ false) cs → (b : Bool) → first_cause (cs ++ (b, NoTermLeft) ∷ []) ≡ Some NoTermLeft → b ≡ true
sole_cause [] others true e = refl
sole_cause [] others false e = absurd (let z : ◌≡◌ {A = ℕ} 0 1 = cc in omega arith)
sole_cause (t ∷ cs) others b e =
    ⊎_elim
    (λ (f : (t.0 ≡ true) × (t.1 ≡ NoTermLeft)). absurd (both_ways (wants t.1) others.0 (ap wants f.1)))
    (λ (f : first_cause (cs ++ (b, NoTermLeft) ∷ []) ≡ Some NoTermLeft). sole_cause cs others.1 b f)
    (some_parts t.0 t.1 NoTermLeft (cs ++ (b, NoTermLeft) ∷ []) e)

-- what is known of every history that is coupled with something: its index stands, and no open run has reported too much
module _ (h : History) (stands : index_stands (index h) ≡ true) (within : (r : ℕ) → is_open h r ≡ true → reported h r ≤ terms_of (run_modulus h r)) where
  -- an enter of (p, g) that no cause refuses, and what that says
  enter_fit : (p g : ℕ) → first_cause (causes h (Enter p g)) ≡ None
      → Fit (index h) p g × (generator_listed h p ≡ None) × (listed_count h < 1023)
  enter_fit p g none =
      let all = all_fail (causes h (Enter p g)) none in
      let k = index h in
      let s = and_parts (eqb (k % 2) 0 && leb 2 k) (leb k 2147483646) stands in
      let e = and_parts (eqb (k % 2) 0) (leb 2 k) s.0 in (
        (
          (decides_modulus p).0 (not-false (modulus_fits p) all.0),
          (decides_generator p g).0 (not-false (generator_fits p g) all.1.0),
          (eqb-true (k % 2) 0 e.0, leb-true 2 k e.1, leb-true k (p - 3) (not-false (index_fits p k) all.1.1.0)),
        ),
        none_since (generator_listed h p) all.1.1.1.1.0,
        leb-false 1023 (listed_count h) all.1.1.1.0,
      )

  fit_enter : (p g : ℕ) → Fit (index h) p g × (generator_listed h p ≡ None) × (listed_count h < 1023)
      → first_cause (causes h (Enter p g)) ≡ None
  fit_enter p g f =
      none_first (causes h (Enter p g)) (
        not_from_true (modulus_fits p) ((decides_modulus p).1 f.0.0),
        (
          not_from_true (generator_fits p g) ((decides_generator p g).1 f.0.1),
          (
            not_from_true (index_fits p (index h)) (le-leb (index h) (p - 3) f.0.2.2),
            (lt-leb 1023 (listed_count h) f.2, (ap (λ (o : Option ℕ). is_some o) f.1, tt)),
          ),
        ),
      )

  -- a finish that no cause refuses
  finish_fit : (r m : ℕ) → is_open h r ≡ true → first_cause (causes h (Finish r m)) ≡ None
      → (m ≡ run_modulus h r) × (reported h r ≡ terms_of (run_modulus h r))
  finish_fit r m opens none =
      let all = all_fail (causes h (Finish r m)) none in
      let left = ltb-false 0 (run_left h r) all.1.0 in
      let low = within r opens in (
        eqb-true m (run_modulus h r) (not-false (eqb m (run_modulus h r)) all.0),
        omega arith,
      )

  fit_finish : (r m : ℕ) → (m ≡ run_modulus h r) × (reported h r ≡ terms_of (run_modulus h r)) → first_cause (causes h (Finish r m)) ≡ None
  fit_finish r m f =
      none_first (causes h (Finish r m)) (
        not_from_true (eqb m (run_modulus h r)) (eq-eqb m (run_modulus h r) f.0),
        (le-ltb 0 (run_left h r) (omega (arith, f.1)), tt),
      )

  -- a call is refused for want of terms only where none is left
  module _ (r : ℕ) (opens : is_open h r ≡ true) where
    left_none : eqb (run_left h r) 0 ≡ true → reported h r ≡ terms_of (run_modulus h r)
    left_none e = let z = eqb-true (run_left h r) 0 e in let low = within r opens in omega arith

  spared_carry : (r m c : ℕ) → is_open h r ≡ true → first_cause (causes h (CarryOn r m c)) ≡ Some NoTermLeft → reported h r ≡ terms_of (run_modulus h r)
  spared_carry r m c opens e =
      left_none r opens
      (sole_cause ((not (eqb m (run_modulus h r)), OtherArithmetic) ∷ (unfit_share c, Share) ∷ []) (refl, (refl, tt)) (eqb (run_left h r) 0) e)

  spared_count : (r n m s c : ℕ) → is_open h r ≡ true → first_cause (causes h (CountOn r n m s c)) ≡ Some NoTermLeft
      → reported h r ≡ terms_of (run_modulus h r)
  spared_count r n m s c opens e =
      left_none r opens
      (sole_cause
      ((not (eqb n 256), CellCount) ∷ (not (eqb m (run_modulus h r)), OtherArithmetic) ∷ (not (eqb s (run_modulus h r)), OtherSource)
      ∷ (unfit_share c, Share) ∷ (directly (run_opened h r), DirectRun) ∷ [])
      (refl, (refl, (refl, (refl, (refl, tt)))))
      (eqb (run_left h r) 0)
      e)

  no_want : (o : Option Outcome) → first_cause (residue_causes h o) ≡ Some NoTermLeft → ⊥
  no_want None e = never_cause [] tt e
  no_want (Some o) e = never_cause (residue_causes h (Some o)) (refl, (refl, (refl, (refl, tt)))) e

  spared_cause : (d : Deed) (r : ℕ) → made h d ≡ true → names r d ≡ true → first_cause (causes h d) ≡ Some NoTermLeft
      → reported h r ≡ terms_of (run_modulus h r)
  spared_cause (Begin k) r ready named e = absurd (both_ways false refl named)
  spared_cause (Enter p g) r ready named e = absurd (both_ways false refl named)
  spared_cause (Open kind p) r ready named e = absurd (both_ways false refl named)
  spared_cause (CarryOn q m c) r ready named e =
      subst (λ (z : ℕ). reported h z ≡ terms_of (run_modulus h z)) (eqb-true q r named) (spared_carry q m c ready e)
  spared_cause (CountOn q n m s c) r ready named e =
      subst (λ (z : ℕ). reported h z ≡ terms_of (run_modulus h z)) (eqb-true q r named) (spared_count q n m s c ready e)
  spared_cause (Finish q m) r ready named e = absurd (never_cause (causes h (Finish q m)) (refl, (refl, tt)) e)
  spared_cause (Tell q) r ready named e = absurd (never_cause [] tt e)
  spared_cause (Fill q) r ready named e = absurd (no_want (given h q) e)
  spared_cause (FillWith o) r ready named e = absurd (both_ways false refl named)
  spared_cause (Show p) r ready named e = absurd (both_ways false refl named)

  -- the three first promises of a lawful event give the others
  lawful_from : (d : Deed) (a : Answer) → ((a ≡ NotMade) ↔ (made h d ≡ false)) → (made h d ≡ true → refusal_in a ≡ first_cause (causes h d))
      → (made h d ≡ true → first_cause (causes h d) ≡ None → Accepted h d a) → Lawful h d a
  lawful_from d a not_made refused accepted = record {
    not_made = not_made;
    refused = refused;
    accepted = accepted;
    taken = λ p g is.
        let ready : made h d ≡ true = ap (made h) is in
        let cause : first_cause (causes h d) ≡ first_cause (causes h (Enter p g)) = ap (λ (x : Deed). first_cause (causes h x)) is in (
          λ done. enter_fit p g (sym cause ∙ sym (refused ready) ∙ ap refusal_in done),
          λ fit. subst (λ (x : Deed). Accepted h x a) is (accepted ready (cause ∙ fit_enter p g fit)),
        );
    shown = λ p is.
        let ready : made h d ≡ true = ap (made h) is in
        let cause : first_cause (causes h d) ≡ first_cause (causes h (Show p)) = ap (λ (x : Deed). first_cause (causes h x)) is in (
          λ none. not-false (is_listed h p) (all_fail (causes h (Show p)) (sym cause ∙ sym (refused ready) ∙ none)).0,
          λ listed. refused ready ∙ cause ∙ none_first (causes h (Show p)) (not_from_true (is_listed h p) listed, tt),
        );
    finished = λ r m is opens.
        let ready : made h d ≡ true = ap (made h) is ∙ opens in
        let cause : first_cause (causes h d) ≡ first_cause (causes h (Finish r m)) = ap (λ (x : Deed). first_cause (causes h x)) is in (
          λ done. finish_fit r m opens (sym cause ∙ sym (refused ready) ∙ ap refusal_in done.1),
          λ fit.
              let did : Accepted h (Finish r m) a = subst (λ (x : Deed). Accepted h x a) is (accepted ready (cause ∙ fit_finish r m fit)) in
              (did.3, did.5),
        );
    spared = λ r named is.
        ⊎_elim
        (λ (ready : made h d ≡ true). spared_cause d r ready named (sym (refused ready) ∙ ap refusal_in is))
        (λ (idle : made h d ≡ false).
        let never : NotMade ≡ Refused NoTermLeft = sym (not_made.1 idle) ∙ is in
        absurd (let z : ◌≡◌ {A = ℕ} 0 1 = cc in omega arith))
        (cases_Bool (made h d));
    kept = listing_kept d a h;
  }

  -- a call that is not made
  pub lawful_not_made : (d : Deed) → made h d ≡ false → Lawful h d NotMade
  lawful_not_made d idle =
      lawful_from d NotMade (λ _. idle, λ _. refl) (λ ready. absurd (both_ways (made h d) idle ready)) (λ ready. absurd (both_ways (made h d) idle ready))

  -- a call that is refused by the first cause that holds
  pub lawful_refused : (d : Deed) (e : Refusal) → made h d ≡ true → first_cause (causes h d) ≡ Some e → Lawful h d (Refused e)
  lawful_refused d e ready cause =
      lawful_from d (Refused e)
      (λ same. absurd (let z : ◌≡◌ {A = ℕ} 0 1 = cc in omega arith), λ idle. absurd (both_ways (made h d) idle ready))
      (λ _. sym cause)
      (λ _ none.
      let never : Some e ≡ None = sym cause ∙ none in
      absurd (let z : ◌≡◌ {A = ℕ} 0 1 = cc in omega arith))

  -- a call that is made and not refused
  pub lawful_accepted : (d : Deed) (a : Answer) → made h d ≡ true → first_cause (causes h d) ≡ None → (a ≡ NotMade → ⊥) → refusal_in a ≡ None → Accepted h d a
      → Lawful h d a
  lawful_accepted d a ready none other free did =
      lawful_from d a (λ same. absurd (other same), λ idle. absurd (both_ways (made h d) idle ready)) (λ _. free ∙ sym none) (λ _ _. did)
