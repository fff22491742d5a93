-- Lists of calls: none, one more, and one list after another.
-- Main statements: went_none, went_more, went_on, went_whole, answered.
-- Assumes nothing.
use Rattle.std.proofs.Common.{◌≡◌, ℕ, suc, List, [], ◌∷◌, ◌++◌, length, Ok, Err, Result, sym, refl, ap, ◌∙◌, subst, append_assoc, append-nil, arith, length-append}
use Rattle.table.specs.Chain.{Contents}
use Rattle.table.specs.Tables.{empty}
use Rattle.book.specs.Worked.{record_of}
use Rattle.std.specs.Result.{MatchResult}
use Rattle.arithmetic.specs.declared.refusal.Refusal.{Refusal}
use Rattle.session.specs.declared.answer.Answer.{Answer}
use Rattle.session.specs.declared.answer.Answer.TheVariants.{Refused}
use Rattle.session.specs.declared.slot.Slot.{Slot}
use Rattle.session.specs.Events.{Deed}
use Rattle.session.specs.Histories.{History, history}
use Rattle.session.specs.Law.{Law, Answered}
use Rattle.session.specs.Sessions.{event, Holds, Goes, Went}
use Rattle.session.specs.Turns.{answer_of}
use Rattle.session.proofs.Coupling.{coupled_none}
use Rattle.session.proofs.Lawful.{law_none, law_more}

length_clash : (n : ℕ) → ◌≡◌ {A = ℕ} 0 (suc n) → ⊥
length_clash n e = omega arith

-- what follows after a list of calls with an answer each
history_on : (h : History) (ds es : List Deed) (xs ys : List Answer) → length xs ≡ length ds → history h (ds ++ es) (xs ++ ys) ≡ history (history h ds xs) es ys
unfolding history
history_on h [] es [] ys each = refl
history_on h [] es (x ∷ xs) ys each = absurd (length_clash (length xs) (sym each))
history_on h (d ∷ ds) es [] ys each = absurd (length_clash (length ds) each)
history_on h (d ∷ ds) es (x ∷ xs) ys each = history_on (event d x ∷ h) ds es xs ys (let e : suc (length xs) ≡ suc (length ds) = each in omega arith)

history_one : (h : History) (d : Deed) (a : Answer) → history h (d ∷ []) (a ∷ []) ≡ event d a ∷ h
unfolding history
history_one h d a = refl

history_nothing : (h : History) → history h [] [] ≡ h
unfolding history
history_nothing h = refl

pub nothing_left : {X : Type 0} (xs : List X) → length xs ≡ 0 → xs ≡ []
nothing_left [] e = refl
nothing_left (x ∷ xs) e = absurd (length_clash (length xs) (sym e))

module _ (t : Contents) (slots : List Slot) where
  pub went_none : (before : List Answer) → Went t slots t slots [] before before
  went_none before = record {
    answers = [];
    behind = sym (append-nil before);
    each = refl;
    lawful = λ h law holds. (
      subst Law (sym (history_nothing h)) law,
      subst (λ (x : History). Holds x t slots) (sym (history_nothing h)) holds,
    );
  }

  -- one list of calls after another
  pub went_on : (t₁ t₂ : Contents) (slots₁ slots₂ : List Slot) (ds es : List Deed) (before mid after : List Answer) → Went t slots t₁ slots₁ ds before mid
      → Went t₁ slots₁ t₂ slots₂ es mid after → Went t slots t₂ slots₂ (ds ++ es) before after
  went_on t₁ t₂ slots₁ slots₂ ds es before mid after first next =
      let xs = first.answers in
      let ys = next.answers in
      record {
        answers = xs ++ ys;
        behind = next.behind ∙ ap (λ (l : List Answer). l ++ ys) first.behind ∙ append_assoc before xs ys;
        each = omega (arith, length-append xs ys, length-append ds es, first.each, next.each);
        lawful = λ h law holds.
            let a = first.lawful h law holds in
            let b = next.lawful (history h ds xs) a.0 a.1 in
            let same = sym (history_on h ds es xs ys first.each) in
            (subst Law same b.0, subst (λ (x : History). Holds x t₂ slots₂) same b.1);
      }

  -- one call
  went_one : (t' : Contents) (slots' : List Slot) (d : Deed) (a : Answer) (before after : List Answer) → Goes t slots t' slots' d a → after ≡ before ++ a ∷ []
      → Went t slots t' slots' (d ∷ []) before after
  went_one t' slots' d a before after goes put = record {
    answers = a ∷ [];
    behind = put;
    each = refl;
    lawful = λ h law holds.
        let g = goes h holds in
        let same = sym (history_one h d a) in
        (subst Law same (law_more h d a law g.0), subst (λ (x : History). Holds x t' slots') same g.1);
  }

pub went_more : (t t₁ t₂ : Contents) (slots slots₁ slots₂ : List Slot) (ds : List Deed) (d : Deed) (a : Answer) (before mid after : List Answer) → Went t slots t₁ slots₁ ds before mid
    → Goes t₁ slots₁ t₂ slots₂ d a → after ≡ mid ++ a ∷ [] → Went t slots t₂ slots₂ (ds ++ d ∷ []) before after
went_more t t₁ t₂ slots slots₁ slots₂ ds d a before mid after went goes put =
    went_on t slots t₁ t₂ slots₁ slots₂ ds (d ∷ []) before mid after went (went_one t₁ slots₁ t₂ slots₂ d a mid after goes put)

-- nothing has happened, and nothing is there
pub holds_nothing : Holds [] (empty 2) []
unfolding record_of
holds_nothing = coupled_none

-- a whole list of calls, from nothing
pub went_all : (t' : Contents) (slots' : List Slot) (ds : List Deed) (after : List Answer) → Went (empty 2) [] t' slots' ds [] after → Answered ds after
went_all t' slots' ds after went =
    let same : after ≡ went.answers = went.behind in
    record {
      each = ap length same ∙ went.each;
      law = subst (λ (l : List Answer). Law (history [] ds l)) (sym same) (went.lawful [] law_none holds_nothing).0;
    }

-- the calls on a new listing, and then those on the book that it is released as
pub went_whole : (t₀ t₁ t₁' t₂ : Contents) (runs slots₂ : List Slot) (ds es : List Deed) (none mid after : List Answer) → Went t₀ [] t₁ [] ds none mid
    → Went t₁' runs t₂ slots₂ es mid after → t₀ ≡ empty 2 → none ≡ [] → t₁' ≡ t₁ → runs ≡ [] → Answered (ds ++ es) after
went_whole t₀ t₁ t₁' t₂ runs slots₂ ds es none mid after first next new bare released idle =
    let first' : Went (empty 2) [] t₁ [] ds [] mid =
    subst (λ (x : Contents). Went x [] t₁ [] ds [] mid) new (subst (λ (x : List Answer). Went t₀ [] t₁ [] ds x mid) bare first)
    in
    let next' : Went t₁ [] t₂ slots₂ es mid after =
    subst (λ (x : Contents). Went x [] t₂ slots₂ es mid after) released (subst (λ (x : List Slot). Went t₁' x t₂ slots₂ es mid after) idle next)
    in
    went_all t₂ slots₂ (ds ++ es) after (went_on (empty 2) [] t₁ t₂ [] slots₂ ds es [] mid after first' next')

-- where a refusal becomes the answer of its call
pub answered : (r : Result Answer Refusal) (a : Answer) → MatchResult r (λ x. a ≡ x) (λ e. a ≡ Refused e) → a ≡ answer_of r
answered (Ok x) a is = is
answered (Err e) a is = is
