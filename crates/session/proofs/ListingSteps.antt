-- Calls on the listing go lawfully, by what the listing's own calls promise.
-- Main statements: goes_begun, goes_entered.
-- Assumes nothing.
use Rattle.std.proofs.Common.{◌≡◌, ℕ, Bool, true, false, cond, eqb, leb, List, [], ◌∷◌, ◌++◌, length, is_some, is_ok, Some, None, Ok, Err, Option, Result, sym, refl, ap, ◌∙◌, subst, ⊎_elim, arith}
use mathlib.Core.Path.{fun_ext}
use Rattle.std.specs.Result.{result_err}
use Rattle.std.proofs.lemmas.Bool.{and_parts, not-true, not-false, cases_Bool, cond-true, cond-false}
use Rattle.arithmetic.specs.declared.refusal.Refusal.{Refusal}
use Rattle.arithmetic.specs.declared.refusal.Refusal.TheVariants.{ListingFull, AlreadyListed}
use Rattle.arithmetic.specs.Causes.{first_cause, index_stands, index_causes, pair_causes}
use Rattle.arithmetic.proofs.Causes.{all_fail, none_since}
use Rattle.table.specs.declared.pair.Record.{Record}
use Rattle.table.specs.Chain.{Contents, every}
use Rattle.table.specs.Entering.{enter_causes, Entered}
use Rattle.table.specs.Fitness.{record_waits}
use Rattle.table.specs.Tables.{empty}
use Rattle.book.specs.Worked.{record_of, generator_of, residue_in, residue_for}
use Rattle.book.proofs.Lookups.{listed_record, listed_generator, entered_same, entered_new, entered_length}
use Rattle.session.specs.declared.answer.Answer.{Answer}
use Rattle.session.specs.declared.answer.Answer.TheVariants.{Done, Refused}
use Rattle.session.specs.Events.{Begin, Enter}
use Rattle.session.specs.Histories.{History, listed_count}
use Rattle.session.specs.Law.{causes, is_listed}
use Rattle.session.specs.Sessions.{event, Coupled, place_in, Holds, Goes}
use Rattle.session.proofs.Coupling.{coupled_begin, coupled_enter}
use Rattle.session.proofs.Lawful.{lawful_accepted}
use Rattle.session.proofs.RunSteps.{known_index, known_within, goes_refused}

-- what a call on the listing is answered
abbrev pub listing_answer : {T : Type 0} → Result T Refusal → Answer
listing_answer (Ok x) = Done
listing_answer (Err e) = Refused e

-- where every record waits no modulus has a residue
pub all_wait : (rs : List Record) (p : ℕ) → every record_waits rs ≡ true → residue_for rs p ≡ None
unfolding record_of every
all_wait [] p w = refl
all_wait (r ∷ rs) p w =
    let parts = and_parts (record_waits r) (every record_waits rs) w in
    ⊎_elim
    (λ (e : eqb r.modulus p ≡ true).
    ap residue_in (cond-true _ (Some r) (record_of rs p) e) ∙ none_since r.residue (not-true (is_some r.residue) parts.0))
    (λ (e : eqb r.modulus p ≡ false). ap residue_in (cond-false _ (Some r) (record_of rs p) e) ∙ all_wait rs p parts.1)
    (cases_Bool (eqb r.modulus p))

module _ (t : Contents) (waits : every record_waits t.records ≡ true) where
  none_there : (p : ℕ) → residue_for t.records p ≡ None
  none_there p = all_wait t.records p waits

  pub goes_begun : {T : Type 0} (k : ℕ) (t' : Contents) (r : Result T Refusal) → result_err r ≡ first_cause (index_causes k) → t' ≡ cond (is_ok r) (empty k) t
      → Goes t [] t' [] (Begin k) (listing_answer r)
  unfolding record_of
  goes_begun k t' (Ok x) answer now h c =
      let stands : index_stands k ≡ true = not-false (index_stands k) (all_fail (index_causes k) (sym answer)).0 in
      let E = event (Begin k) Done ∷ h in
      let begun = coupled_begin h t.index (generator_of t.records) (length t.records) (residue_for t.records) 0 (place_in []) c refl none_there k stands in (
        lawful_accepted h (known_index t [] h c) (known_within t [] h c) (Begin k) Done refl (sym answer) (λ e. let never : ◌≡◌ {A = ℕ} 0 1 = cc in omega arith) refl refl,
        subst (λ (y : Contents). Holds E y []) (sym now)
            (subst (λ (y : ℕ → Option ℕ). Coupled E k (λ _. None) 0 y 0 (place_in [])) (fun_ext none_there) begun),
      )
  goes_begun k t' (Err e) answer now h c =
      subst (λ (y : Contents). Goes t [] y [] (Begin k) (Refused e)) (sym now) (goes_refused t [] (Begin k) e (λ _ _. (refl, sym answer))) h c

  -- what the history tells refuses a pair as the listing does
  enter_causes_are : (h : History) → Holds h t [] → (p g : ℕ) → causes h (Enter p g) ≡ enter_causes t p g
  enter_causes_are h c p g =
      ap (λ (k : ℕ). pair_causes k p g ++ (leb 1023 (listed_count h), ListingFull) ∷ (is_listed h p, AlreadyListed) ∷ []) c.index_is
      ∙ ap (λ (n : ℕ). pair_causes t.index p g ++ (leb 1023 n, ListingFull) ∷ (is_listed h p, AlreadyListed) ∷ []) c.count_is
      ∙ ap (λ (b : Bool). pair_causes t.index p g ++ (leb 1023 (length t.records), ListingFull) ∷ (b, AlreadyListed) ∷ [])
      (ap is_some (c.generator_is p) ∙ listed_generator t.records p ∙ sym (listed_record t.records p))

  pub goes_entered : {T : Type 0} (p g : ℕ) (t' : Contents) (r : Result T Refusal) → result_err r ≡ first_cause (enter_causes t p g) → Entered t t' p g r
      → every record_waits t'.records ≡ true → Goes t [] t' [] (Enter p g) (listing_answer r)
  goes_entered p g t' (Ok x) answer entered waits' h c =
      let rs = t.records in
      let none : record_of rs p ≡ None = none_since (record_of rs p) (sym (listed_record rs p) ∙ (all_fail (enter_causes t p g) (sym answer)).1.1.1.1.0) in
      let new = entered_new t t' p g x entered none in
      let E = event (Enter p g) Done ∷ h in
      let done = coupled_enter h t.index (generator_of rs) (length rs) (residue_for rs) 0 (place_in []) c refl none_there p g (generator_of t'.records) (length t'.records)
      new.0 (λ q ne. (entered_same t t' p g x entered none q ne).0) (entered_length t t' p g x entered) in
      let same-residues : residue_for rs ≡ residue_for t'.records = fun_ext (λ q. none_there q ∙ sym (all_wait t'.records q waits')) in
      let by-residue = subst (λ (y : ℕ → Option ℕ). Coupled E t.index (generator_of t'.records) (length t'.records) y 0 (place_in [])) same-residues done in (
        lawful_accepted h (known_index t [] h c) (known_within t [] h c) (Enter p g) Done refl
            (ap (λ (l : List (Bool × Refusal)). first_cause l) (enter_causes_are h c p g) ∙ sym answer) (λ e. let never : ◌≡◌ {A = ℕ} 0 1 = cc in omega arith) refl refl,
        subst (λ (k : ℕ). Coupled E k (generator_of t'.records) (length t'.records) (residue_for t'.records) 0 (place_in [])) (sym entered.0) by-residue,
      )
  goes_entered p g t' (Err e) answer entered waits' h c =
      subst (λ (y : Contents). Goes t [] y [] (Enter p g) (Refused e)) (sym entered)
      (goes_refused t [] (Enter p g) e (λ j k. (refl, ap (λ (l : List (Bool × Refusal)). first_cause l) (enter_causes_are j k p g) ∙ sym answer))) h c
