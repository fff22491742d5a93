-- The record of a modulus: where it stands, and after a pair was entered or a record filled.
-- Main statements: record_has, record_at, listed_record, entered_same, entered_new, filled_generator, filled_residue.
-- Assumes nothing.
use Rattle.std.proofs.Common.{◌≡◌, ℕ, zero, suc, ◌+◌, ◌-◌, ◌<◌, ◌≤◌, ◌≢◌, ◌⊎◌, List, [], ◌∷◌, ◌++◌, length, get_or, set, is_some, Some, None, Ok, Option, sym, refl, ap, ◌∙◌, inl, inr, ⊎_elim, arith}
use Rattle.std.proofs.lemmas.List.{length-map, length_push, length-set}
use Rattle.std.proofs.lemmas.Option.{slice_get-get_or}
use Rattle.std.proofs.lemmas.Bool.{eq-eqb, ne_eqb, cases_eq, cond-true, cond-false}
use Rattle.arithmetic.proofs.Causes.{none_since}
use Rattle.table.specs.declared.pair.Record.{Record}
use Rattle.table.specs.Chain.{Contents, head, listed, number_from, number_of, numbered, relinked}
use Rattle.table.specs.Entering.{Entered, unlinked, waiting_record}
use Rattle.table.specs.Filling.{filled, with_residue}
use Rattle.book.specs.Worked.{record_of, generator_in, generator_of, residue_in, residue_for}

-- one step of the search for the record
here : (r : Record) (rs : List Record) (p : ℕ) → r.modulus ≡ p → record_of (r ∷ rs) p ≡ Some r
unfolding record_of
here r rs p e = cond-true _ (Some r) (record_of rs p) (eq-eqb r.modulus p e)

on : (r : Record) (rs : List Record) (p : ℕ) → r.modulus ≢ p → record_of (r ∷ rs) p ≡ record_of rs p
unfolding record_of
on r rs p ne = cond-false _ (Some r) (record_of rs p) (ne_eqb r.modulus p ne)

pub empty_record : (p : ℕ) → record_of [] p ≡ None
unfolding record_of
empty_record p = refl

pub empty_generator : (p : ℕ) → generator_of [] p ≡ None
empty_generator p = ap generator_in (empty_record p)

pub empty_residue : (p : ℕ) → residue_for [] p ≡ None
empty_residue p = ap residue_in (empty_record p)

-- the record of p has the modulus p
pub record_has : (rs : List Record) (p : ℕ) (r : Record) → record_of rs p ≡ Some r → r.modulus ≡ p
record_has [] p r h = absurd (let none = empty_record p in let z : ◌≡◌ {A = ℕ} 0 1 = cc in omega arith)
record_has (x ∷ rs) p r h =
    ⊎_elim
    (λ (e : x.modulus ≡ p).
    let same : Some x ≡ Some r = sym (here x rs p e) ∙ h in
    let is : x ≡ r = cc in
    ap (λ (y : Record). y.modulus) (sym is) ∙ e)
    (λ (ne : x.modulus ≡ p → ⊥). record_has rs p r (sym (on x rs p ne) ∙ h))
    (cases_eq x.modulus p)

-- the record found by its number is the record of the modulus
found_from : (m : ℕ) (rs : List Record) (p n : ℕ) → number_from m rs p ≡ Some n
    → (i : ℕ) × (i < length rs) × (n ≡ m + i) × (record_of rs p ≡ Some (get_or rs i (head 0)))
unfolding number_from
found_from m [] p n h = absurd (let z : ◌≡◌ {A = ℕ} 0 1 = cc in omega arith)
found_from m (r ∷ rs) p n h =
    ⊎_elim
    (λ (e : r.modulus ≡ p).
    let found : Some m ≡ Some n = sym (cond-true _ (Some m) (number_from (suc m) rs p) (eq-eqb r.modulus p e)) ∙ h in
    let same : m ≡ n = cc in
    (0, omega arith, omega arith, here r rs p e))
    (λ (ne : r.modulus ≡ p → ⊥).
    let rest = found_from (suc m) rs p n (sym (cond-false _ (Some m) (number_from (suc m) rs p) (ne_eqb r.modulus p ne)) ∙ h) in
    (suc rest.0, omega (arith, rest.1), omega (arith, rest.2), on r rs p ne ∙ rest.3))
    (cases_eq r.modulus p)

-- the number of the record of p is one above its place in the list
pub number_place : (rs : List Record) (p n : ℕ) → number_of rs p ≡ Some n
    → (1 ≤ n) × (n - 1 < length rs) × (record_of rs p ≡ Some (get_or rs (n - 1) (head 0)))
number_place rs p n h =
    let at = found_from 1 rs p n h in
    let e : at.0 ≡ n - 1 = omega (arith, at.2) in
    (omega (arith, at.2), omega (arith, at.1, at.2), at.3 ∙ ap (λ (i : ℕ). Some (get_or rs i (head 0))) e)

pub record_at : (rs : List Record) (p n : ℕ) → number_of rs p ≡ Some n → numbered rs n ≡ record_of rs p
record_at rs p n h =
    let at = found_from 1 rs p n h in
    let e : n ≡ suc at.0 = omega (arith, at.2) in
    ap (numbered rs) e ∙ slice_get-get_or rs at.0 (head 0) at.1 ∙ sym at.3

listed_from : (m : ℕ) (rs : List Record) (p : ℕ) → is_some (number_from m rs p) ≡ is_some (record_of rs p)
unfolding number_from
listed_from m [] p = ap is_some (sym (empty_record p))
listed_from m (r ∷ rs) p =
    ⊎_elim
    (λ (e : r.modulus ≡ p).
    ap is_some (cond-true _ (Some m) (number_from (suc m) rs p) (eq-eqb r.modulus p e)) ∙ ap is_some (sym (here r rs p e)))
    (λ (ne : r.modulus ≡ p → ⊥).
    ap is_some (cond-false _ (Some m) (number_from (suc m) rs p) (ne_eqb r.modulus p ne))
    ∙ listed_from (suc m) rs p
    ∙ ap is_some (sym (on r rs p ne)))
    (cases_eq r.modulus p)

-- a modulus is listed where it has a record, and then it has a generator
pub listed_record : (rs : List Record) (p : ℕ) → listed rs p ≡ is_some (record_of rs p)
listed_record rs p = listed_from 1 rs p

pub listed_generator : (rs : List Record) (p : ℕ) → is_some (generator_of rs p) ≡ is_some (record_of rs p)
listed_generator rs p = both (record_of rs p)
  where
    both : (o : Option Record) → is_some (generator_in o) ≡ is_some o
    both None = refl
    both (Some r) = refl

pub unlisted_record : (rs : List Record) (p : ℕ) → number_of rs p ≡ None → record_of rs p ≡ None
unlisted_record rs p h = none_since (record_of rs p) (sym (listed_record rs p) ∙ ap is_some h)

-- the record of p stands somewhere in the list, or there is none
pub record_place : (rs : List Record) (p : ℕ) → ((i : ℕ) × (i < length rs) × (record_of rs p ≡ Some (get_or rs i (head 0)))) ⊎ (record_of rs p ≡ None)
record_place rs p = by_number (number_of rs p) refl
  where
    by_number : (o : Option ℕ) → number_of rs p ≡ o → ((i : ℕ) × (i < length rs) × (record_of rs p ≡ Some (get_or rs i (head 0)))) ⊎ (record_of rs p ≡ None)
    by_number None h = inr (unlisted_record rs p h)
    by_number (Some n) h = let at = number_place rs p n h in inl (n - 1, at.1, at.2)

-- what does not look at links is the same without them
look_unlinked : {X : Type 0} (look : Option Record → X) → ((r : Record) → look (Some (relinked r 0)) ≡ look (Some r))
    → (rs : List Record) (q : ℕ) → look (record_of (unlinked rs) q) ≡ look (record_of rs q)
look_unlinked look blind [] q = refl
look_unlinked look blind (r ∷ rs) q =
    ⊎_elim
    (λ (e : r.modulus ≡ q).
    ap look (here (relinked r 0) (unlinked rs) q e) ∙ blind r ∙ ap look (sym (here r rs q e)))
    (λ (ne : r.modulus ≡ q → ⊥).
    ap look (on (relinked r 0) (unlinked rs) q ne) ∙ look_unlinked look blind rs q ∙ ap look (sym (on r rs q ne)))
    (cases_eq r.modulus q)

-- a record behind the others is found by its modulus alone
push_other : (rs : List Record) (w : Record) (q : ℕ) → w.modulus ≢ q → record_of (rs ++ w ∷ []) q ≡ record_of rs q
push_other [] w q ne = on w [] q ne
push_other (r ∷ rs) w q ne =
    ⊎_elim
    (λ (e : r.modulus ≡ q). here r (rs ++ w ∷ []) q e ∙ sym (here r rs q e))
    (λ (other : r.modulus ≡ q → ⊥). on r (rs ++ w ∷ []) q other ∙ push_other rs w q ne ∙ sym (on r rs q other))
    (cases_eq r.modulus q)

push_here : (rs : List Record) (w : Record) (q : ℕ) → w.modulus ≡ q → record_of rs q ≡ None → record_of (rs ++ w ∷ []) q ≡ Some w
push_here [] w q e none = here w [] q e
push_here (r ∷ rs) w q e none =
    ⊎_elim
    (λ (same : r.modulus ≡ q).
    let found : Some r ≡ None = sym (here r rs q same) ∙ none in
    absurd (let z : ◌≡◌ {A = ℕ} 0 1 = cc in omega arith))
    (λ (other : r.modulus ≡ q → ⊥).
    on r (rs ++ w ∷ []) q other ∙ push_here rs w q e (sym (on r rs q other) ∙ none))
    (cases_eq r.modulus q)

module _ (rs rs' : List Record) (p g : ℕ) (now : unlinked rs' ≡ unlinked rs ++ waiting_record 0 p g ∷ []) where
  same_look : {X : Type 0} (look : Option Record → X) → ((r : Record) → look (Some (relinked r 0)) ≡ look (Some r))
      → (q : ℕ) → q ≢ p → look (record_of rs' q) ≡ look (record_of rs q)
  same_look look blind q ne =
      sym (look_unlinked look blind rs' q)
      ∙ ap (λ (xs : List Record). look (record_of xs q)) now
      ∙ ap look (push_other (unlinked rs) (waiting_record 0 p g) q (λ e. ne (sym e)))
      ∙ look_unlinked look blind rs q

  new_look : {X : Type 0} (look : Option Record → X) → ((r : Record) → look (Some (relinked r 0)) ≡ look (Some r))
      → record_of rs p ≡ None → look (record_of rs' p) ≡ look (Some (waiting_record 0 p g))
  new_look look blind none =
      let absent : record_of (unlinked rs) p ≡ None = none_since _ (look_unlinked is_some (λ r. refl) rs p ∙ ap is_some none) in
      sym (look_unlinked look blind rs' p)
      ∙ ap (λ (xs : List Record). look (record_of xs p)) now
      ∙ ap look (push_here (unlinked rs) (waiting_record 0 p g) p refl absent)

  one_more : length rs' ≡ suc (length rs)
  one_more =
      omega (arith, length-map rs' (λ r. relinked r 0), length-map rs (λ r. relinked r 0), ap length now, length_push (unlinked rs) (waiting_record 0 p g))

-- after a pair was entered the other moduli have what they had, the new one has its generator and waits, and there is
-- one record more
module _ {T : Type 0} (before after : Contents) (p g : ℕ) (x : T) (entered : Entered before after p g (Ok x)) where
  pub entered_same : record_of before.records p ≡ None → (q : ℕ) → q ≢ p
      → (generator_of after.records q ≡ generator_of before.records q)
      × (residue_for after.records q ≡ residue_for before.records q)
  entered_same none q ne = (
    same_look before.records after.records p g entered.1 generator_in (λ r. refl) q ne,
    same_look before.records after.records p g entered.1 residue_in (λ r. refl) q ne,
  )

  pub entered_new : record_of before.records p ≡ None
      → (generator_of after.records p ≡ Some g) × (residue_for after.records p ≡ None)
  entered_new none = (
    new_look before.records after.records p g entered.1 generator_in (λ r. refl) none,
    new_look before.records after.records p g entered.1 residue_in (λ r. refl) none,
  )

  pub entered_length : length after.records ≡ suc (length before.records)
  entered_length = one_more before.records after.records p g entered.1

-- a record in the place of one of the same modulus
set_other : (rs : List Record) (i : ℕ) (x : Record) (q : ℕ) → x.modulus ≡ (get_or rs i (head 0)).modulus → q ≢ x.modulus
    → record_of (set rs i x) q ≡ record_of rs q
set_other [] i x q same ne = refl
set_other (r ∷ rs) zero x q same ne =
    on x rs q (λ e. ne (sym e)) ∙ sym (on r rs q (λ e. ne (sym (same ∙ e))))
set_other (r ∷ rs) (suc i) x q same ne =
    ⊎_elim
    (λ (e : r.modulus ≡ q). here r (set rs i x) q e ∙ sym (here r rs q e))
    (λ (other : r.modulus ≡ q → ⊥). on r (set rs i x) q other ∙ set_other rs i x q same ne ∙ sym (on r rs q other))
    (cases_eq r.modulus q)

set_here : (m : ℕ) (rs : List Record) (i : ℕ) (x : Record) (p : ℕ) → number_from m rs p ≡ Some (m + i) → x.modulus ≡ p
    → record_of (set rs i x) p ≡ Some x
unfolding number_from
set_here m [] i x p h e = absurd (let z : ◌≡◌ {A = ℕ} 0 1 = cc in omega arith)
set_here m (r ∷ rs) zero x p h e = here x rs p e
set_here m (r ∷ rs) (suc i) x p h e =
    ⊎_elim
    (λ (same : r.modulus ≡ p).
    let found : Some m ≡ Some (m + suc i) = sym (cond-true _ (Some m) (number_from (suc m) rs p) (eq-eqb r.modulus p same)) ∙ h in
    let never : m ≡ m + suc i = cc in
    absurd (omega arith))
    (λ (other : r.modulus ≡ p → ⊥).
    let shift : m + suc i ≡ suc m + i = omega arith in
    let rest : number_from (suc m) rs p ≡ Some (suc m + i) =
    sym (cond-false _ (Some m) (number_from (suc m) rs p) (ne_eqb r.modulus p other)) ∙ h ∙ ap (λ (n : ℕ). Some n) shift
    in
    on r (set rs i x) p other ∙ set_here (suc m) rs i x p rest e)
    (cases_eq r.modulus p)

-- after the record of p was given the residue v all generators are as they were, the residue for p is v, and the others
-- are as they were
module _ (t : Contents) (n v p : ℕ) (number : number_of t.records p ≡ Some n) where
  pub filled_record : record_of (filled t n v).records p ≡ Some (with_residue (get_or t.records (n - 1) (head 0)) v)
  filled_record =
      let at = number_place t.records p n number in
      let has = record_has t.records p (get_or t.records (n - 1) (head 0)) at.2 in
      let e : n ≡ 1 + (n - 1) = omega (arith, at.0) in
      set_here 1 t.records (n - 1) (with_residue (get_or t.records (n - 1) (head 0)) v) p (number ∙ ap (λ (m : ℕ). Some m) e) has

  pub filled_others : (q : ℕ) → q ≢ p → record_of (filled t n v).records q ≡ record_of t.records q
  filled_others q ne =
      let at = number_place t.records p n number in
      let has = record_has t.records p (get_or t.records (n - 1) (head 0)) at.2 in
      set_other t.records (n - 1) (with_residue (get_or t.records (n - 1) (head 0)) v) q refl (λ e. ne (e ∙ has))

  pub filled_generator : (q : ℕ) → generator_of (filled t n v).records q ≡ generator_of t.records q
  filled_generator q =
      ⊎_elim
      (λ (e : q ≡ p).
      let at = number_place t.records p n number in
      ap (generator_of (filled t n v).records) e
      ∙ ap generator_in filled_record
      ∙ sym (ap generator_in at.2)
      ∙ ap (generator_of t.records) (sym e))
      (λ (ne : q ≡ p → ⊥). ap generator_in (filled_others q ne))
      (cases_eq q p)

  pub filled_residue : residue_for (filled t n v).records p ≡ Some v
  filled_residue = ap residue_in filled_record

  pub filled_residue_other : (q : ℕ) → q ≢ p → residue_for (filled t n v).records q ≡ residue_for t.records q
  filled_residue_other q ne = ap residue_in (filled_others q ne)

pub filled_length : (t : Contents) (n v : ℕ) → length (filled t n v).records ≡ length t.records
filled_length t n v = length-set t.records (n - 1) (with_residue (get_or t.records (n - 1) (head 0)) v)

pub filled_index : (t : Contents) (n v : ℕ) → (filled t n v).index ≡ t.index
filled_index t n v = refl
