-- What stands for a run decides which calls on it are made, and what refuses them.
-- Main statements: open_by_place, unspent_by_place, never_too_many, carry_causes_are, count_causes_are, finish_causes_are, shown_accepted.
-- Assumes nothing.
use Rattle.std.proofs.Common.{◌≡◌, ℕ, ◌-◌, ◌≤◌, Bool, true, false, not, ◌&&◌, eqb, ltb, [], ◌∷◌, is_some, Some, None, Option, sym, refl, ap, ◌∙◌, subst, arith}
use Rattle.std.proofs.lemmas.Bool.{both_ways}
use Rattle.theory.specs.declared.kind.Kind.{Kind}
use Rattle.theory.specs.Direct.{terms_of}
use Rattle.arithmetic.specs.declared.refusal.Refusal.TheVariants.{CellCount, OtherArithmetic, OtherSource, Share, DirectRun, NoTermLeft, TermsLeft}
use Rattle.run.specs.Calls.{unfit_share}
use Rattle.run.specs.CountingOn.{is_direct}
use Rattle.session.specs.declared.answer.Answer.TheVariants.{Filled, Shown}
use Rattle.session.specs.declared.answer.Outcome.{Outcome}
use Rattle.session.specs.Events.{Deed, CarryOn, CountOn, Finish, Show}
use Rattle.session.specs.Histories.{History, index, run_opened, reported, given, spent, modulus_in, run_modulus, run_left, is_open, is_unspent, Among}
use Rattle.session.specs.Law.{directly, is_filled, causes, IsRun, Whole, FillMade, Accepted}
use Rattle.session.specs.Made.{open_at, unspent_at}
use Rattle.session.specs.Sessions.{event, Place, Unopened, AtWork, Ended, Used, PlaceIs, FilledBy, Coupled}

open_from : {X Y : Type 0} (o : Option X) (f : Option Y) (b c : Bool) → is_some o ≡ b → is_some f ≡ c → (is_some o && not (is_some f)) ≡ (b && not c)
open_from o f b c e g = ap (λ (x : Bool). x && not (is_some f)) e ∙ ap (λ (x : Bool). b && not x) g

never_with : (x : Bool) → (x && false) ≡ false
never_with true = refl
never_with false = refl

module _ (h : History) (r : ℕ) where
  pub open_by_place : (s : Place) → PlaceIs h r s → is_open h r ≡ open_at s
  open_by_place Unopened at = open_from (run_opened h r) (given h r) false false (ap is_some at.0) (ap is_some at.2)
  open_by_place (AtWork kind k p g t) at = open_from (run_opened h r) (given h r) true false (ap is_some at.0) (ap is_some at.2)
  open_by_place (Ended o) at =
      open_from (run_opened h r) (given h r) (is_some (run_opened h r)) true refl (ap is_some at.0) ∙ never_with (is_some (run_opened h r))
  open_by_place Used at =
      open_from (run_opened h r) (given h r) (is_some (run_opened h r)) true refl at.0 ∙ never_with (is_some (run_opened h r))

  pub unspent_by_place : (s : Place) → PlaceIs h r s → is_unspent h r ≡ unspent_at s
  unspent_by_place Unopened at = open_from (given h r) (spent h r) false false (ap is_some at.2) (ap is_some at.3)
  unspent_by_place (AtWork kind k p g t) at = open_from (given h r) (spent h r) false false (ap is_some at.2) (ap is_some at.3)
  unspent_by_place (Ended o) at = open_from (given h r) (spent h r) true false (ap is_some at.0) (ap is_some at.1)
  unspent_by_place Used at = open_from (given h r) (spent h r) true true at.0 at.1

  -- no open run has reported more terms than it has
  pub never_too_many : (s : Place) → PlaceIs h r s → is_open h r ≡ true → reported h r ≤ terms_of (run_modulus h r)
  never_too_many Unopened at opens = absurd (both_ways (is_open h r) (open_by_place Unopened at) opens)
  never_too_many (AtWork kind k p g t) at opens =
      subst (λ (m : ℕ). reported h r ≤ terms_of m) (sym (ap modulus_in at.0)) (subst (λ (n : ℕ). n ≤ terms_of p) (sym at.1) at.6)
  never_too_many (Ended o) at opens = absurd (both_ways (is_open h r) (open_by_place (Ended o) at) opens)
  never_too_many Used at opens = absurd (both_ways (is_open h r) (open_by_place Used at) opens)

  -- the causes of calls on a run at work, by what stands for it
  module _ (kind : Kind) (k p g t : ℕ) (at : PlaceIs h r (AtWork kind k p g t)) where
    pub modulus_at : run_modulus h r ≡ p
    modulus_at = ap modulus_in at.0

    pub left_at : run_left h r ≡ terms_of p - t
    left_at = ap (λ (m : ℕ). terms_of m - reported h r) modulus_at ∙ ap (λ (n : ℕ). terms_of p - n) at.1

    pub run_at : IsRun h r kind p g
    run_at = record { opened = at.0; listed = at.4 }

    pub carry_causes_are : (m c : ℕ) → causes h (CarryOn r m c)
        ≡ (not (eqb m p), OtherArithmetic) ∷ (unfit_share c, Share) ∷ (eqb (terms_of p - t) 0, NoTermLeft) ∷ []
    carry_causes_are m c =
        ap (λ (q : ℕ). (not (eqb m q), OtherArithmetic) ∷ (unfit_share c, Share) ∷ (eqb (run_left h r) 0, NoTermLeft) ∷ []) modulus_at
        ∙ ap (λ (n : ℕ). (not (eqb m p), OtherArithmetic) ∷ (unfit_share c, Share) ∷ (eqb n 0, NoTermLeft) ∷ []) left_at

    pub count_causes_are : (n m s c : ℕ) → causes h (CountOn r n m s c)
        ≡ (not (eqb n 256), CellCount) ∷ (not (eqb m p), OtherArithmetic) ∷ (not (eqb s p), OtherSource) ∷ (unfit_share c, Share)
        ∷ (is_direct kind, DirectRun) ∷ (eqb (terms_of p - t) 0, NoTermLeft) ∷ []
    count_causes_are n m s c =
        ap (λ (q : ℕ). (not (eqb n 256), CellCount) ∷ (not (eqb m q), OtherArithmetic) ∷ (not (eqb s q), OtherSource) ∷ (unfit_share c, Share)
        ∷ (directly (run_opened h r), DirectRun) ∷ (eqb (run_left h r) 0, NoTermLeft) ∷ []) modulus_at
        ∙ ap (λ (o : Option (Kind × ℕ)). (not (eqb n 256), CellCount) ∷ (not (eqb m p), OtherArithmetic) ∷ (not (eqb s p), OtherSource) ∷ (unfit_share c, Share)
        ∷ (directly o, DirectRun) ∷ (eqb (run_left h r) 0, NoTermLeft) ∷ []) at.0
        ∙ ap (λ (l : ℕ). (not (eqb n 256), CellCount) ∷ (not (eqb m p), OtherArithmetic) ∷ (not (eqb s p), OtherSource) ∷ (unfit_share c, Share)
        ∷ (is_direct kind, DirectRun) ∷ (eqb l 0, NoTermLeft) ∷ []) left_at

    pub finish_causes_are : (m : ℕ) → causes h (Finish r m) ≡ (not (eqb m p), OtherArithmetic) ∷ (ltb 0 (terms_of p - t), TermsLeft) ∷ []
    finish_causes_are m =
        ap (λ (q : ℕ). (not (eqb m q), OtherArithmetic) ∷ (ltb 0 (run_left h r), TermsLeft) ∷ []) modulus_at
        ∙ ap (λ (n : ℕ). (not (eqb m p), OtherArithmetic) ∷ (ltb 0 n, TermsLeft) ∷ []) left_at

module _ (h : History) (k : ℕ) (generator : ℕ → Option ℕ) (count : ℕ) (residue : ℕ → Option ℕ) (opened : ℕ) (place : ℕ → Place) (coupled : Coupled h k generator count residue opened place) where
  whole_shown : (p g x : ℕ) → generator p ≡ Some g → residue p ≡ Some x
      → (o : Outcome) × (o.residue ≡ x) × Whole (index h) p g o × ((d : Deed) × Among (event d (Filled o)) h)
  whole_shown p g x listed is =
      let f : FilledBy h k generator p x = coupled.worked p x is in
      let same : Some f.g ≡ Some g = sym f.listed ∙ listed in
      let equal : f.g ≡ g = cc in (
        f.outcome,
        f.residue_is,
        subst (λ (j : ℕ). Whole j p g f.outcome) (sym coupled.index_is) (subst (λ (y : ℕ). Whole k p y f.outcome) equal f.whole),
        (f.call, f.happened),
      )

  made_shown : (p x : ℕ) → residue p ≡ Some x → FillMade h p x
  made_shown p x is =
      let f : FilledBy h k generator p x = coupled.worked p x is in
      record { call = f.call; outcome = f.outcome; happened = f.happened; modulus_is = f.whole.modulus_is; residue_is = f.residue_is }

  pub shown_accepted : (p g : ℕ) (s : Option ℕ) → generator p ≡ Some g → residue p ≡ s → Accepted h (Show p) (Shown s)
  shown_accepted p g None listed is = (
    g,
    coupled.generator_is p ∙ listed,
    λ v. (
      λ same. absurd (let z : ◌≡◌ {A = ℕ} 0 1 = cc in omega arith),
      λ f. let never : None ≡ Some v = sym is ∙ coupled.fills_are p v f in absurd (let z : ◌≡◌ {A = ℕ} 0 1 = cc in omega arith),
    ),
    (λ _. ap is_some (coupled.residue_is p ∙ is), λ _. refl),
    λ v same. absurd (let z : ◌≡◌ {A = ℕ} 0 1 = cc in omega arith),
  )
  shown_accepted p g (Some x) listed is = (
    g,
    coupled.generator_is p ∙ listed,
    λ v. (
      λ same. let equal : x ≡ v = cc in subst (FillMade h p) equal (made_shown p x is),
      λ f.
          let some : Some x ≡ Some v = sym is ∙ coupled.fills_are p v f in
          let equal : x ≡ v = cc in
          ap (λ (y : ℕ). Shown (Some y)) equal,
    ),
    (
      λ same. absurd (let z : ◌≡◌ {A = ℕ} 0 1 = cc in omega arith),
      λ off.
          let on : is_filled h p ≡ true = ap is_some (coupled.residue_is p ∙ is) in
          absurd (both_ways (is_filled h p) off on),
    ),
    λ v same.
        let equal : x ≡ v = cc in
        whole_shown p g v listed (is ∙ ap Some equal),
  )
