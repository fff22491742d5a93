-- Lists of records: none of them, their numbers, and what every one of them passes.
-- Main statements: chained_none, numbered_at, numbered_some, numbered_none, number_position, every_at.
-- Assumes nothing.
use Rattle.std.proofs.Common.{◌≡◌, ℕ, zero, suc, ◌+◌, ◌-◌, ◌<◌, ◌≤◌, Bool, true, false, cond, not, ◌==◌, nat_lt, ◌≢◌, List, [], ◌∷◌, length, get_or, Some, None, Option, sym, refl, ap, ◌∙◌, subst, ⊎_elim, arith}
use Rattle.std.specs.List.{slice_get, position, position_or_len}
use Rattle.std.specs.Option.{option_map}
use Rattle.std.proofs.lemmas.Option.{slice_get-get_or, slice_get_past}
use Rattle.std.proofs.lemmas.Bool.{and_parts, and_from, eq-eqb, ne_eqb, cond-true, cond-false, cases_eq, cases_lt, lt-ltb, le-ltb}
use Rattle.table.specs.declared.pair.Record.{Record}
use Rattle.table.specs.Chain.{chained, rises, every, numbered, number_from, number_of, rows, row, head, modulus_in}

-- no records: the chain ends at the head
pub chained_none : (rs : List Record) → rs ≡ [] → chained 0 rs ≡ true
unfolding chained rises
chained_none rs e = subst (λ (xs : List Record). chained 0 xs ≡ true) (sym e) refl

pub every_none : (test : Record → Bool) (rs : List Record) → rs ≡ [] → every test rs ≡ true
unfolding every
every_none test rs e = subst (λ (xs : List Record). every test xs ≡ true) (sym e) refl

-- the record of a number that there is, and of one that there is not
pub numbered_at : (rs : List Record) (n : ℕ) (d : Record) → 1 ≤ n → n ≤ length rs → numbered rs n ≡ Some (get_or rs (n - 1) d)
numbered_at rs zero d low high = absurd (omega arith)
numbered_at rs (suc n) d low high =
    let e : n ≡ suc n - 1 = omega arith in
    slice_get-get_or rs n d (omega arith) ∙ ap (λ (i : ℕ). Some (get_or rs i d)) e

pub nth_past : {X : Type 0} (rs : List X) (i : ℕ) → length rs ≤ i → slice_get rs i ≡ None
nth_past rs i h = slice_get_past rs i h

pub numbered_past : (rs : List Record) (n : ℕ) → length rs < n → numbered rs n ≡ None
numbered_past rs zero h = refl
numbered_past rs (suc n) h = nth_past rs n (omega arith)

pub numbered_none : (rs : List Record) (n : ℕ) → n ≢ 0 → numbered rs n ≡ None → length rs < n
numbered_none rs n ne none =
    ⊎_elim
    (λ (h : length rs < n). h)
    (λ (h : n ≤ length rs).
    let found : Some (get_or rs (n - 1) (head 0)) ≡ None = sym (numbered_at rs n (head 0) (omega arith) h) ∙ none in
    absurd (let z : ◌≡◌ {A = ℕ} 0 1 = cc in omega arith))
    (cases_lt (length rs) n)

-- a record that was found by its number stands there
pub numbered_some : (rs : List Record) (n : ℕ) (r d : Record) → numbered rs n ≡ Some r → (1 ≤ n) × (n ≤ length rs) × (get_or rs (n - 1) d ≡ r)
numbered_some rs zero r d h = absurd (let z : ◌≡◌ {A = ℕ} 0 1 = cc in omega arith)
numbered_some rs (suc n) r d h =
    ⊎_elim
    (λ (l : n < length rs).
    let found : Some (get_or rs (suc n - 1) d) ≡ Some r = sym (numbered_at rs (suc n) d (omega arith) (omega arith)) ∙ h in
    (omega arith, omega arith, cc))
    (λ (l : length rs ≤ n).
    let none : Some r ≡ None = sym h ∙ numbered_past rs (suc n) (omega arith) in
    absurd (let z : ◌≡◌ {A = ℕ} 0 1 = cc in omega arith))
    (cases_lt n (length rs))

abbrev pub has_modulus : ℕ → Record → Bool
has_modulus p r = r.modulus == p

-- the number of the record with the modulus p is one above its position
number_position_from : (n : ℕ) (rs : List Record) (p : ℕ) → number_from n rs p ≡ option_map (λ (i : ℕ). n + i) (position (has_modulus p) rs)
unfolding number_from
number_position_from n [] p = refl
number_position_from n (r ∷ rs) p =
    let k = position_or_len (has_modulus p) rs in
    let at : Bool → ℕ = λ b. cond (not b) (1 + k) 0 in
    let told : ℕ → Option ℕ = λ i. option_map (λ (j : ℕ). n + j) (cond (nat_lt i (suc (length rs))) (Some i) None) in
    ⊎_elim
    (λ (e : r.modulus ≡ p).
    let yes : has_modulus p r ≡ true = eq-eqb r.modulus p e in
    let same : n ≡ n + 0 = omega arith in
    cond-true _ _ _ yes
    ∙ ap (λ (i : ℕ). Some i) same
    ∙ sym (ap (option_map (λ (j : ℕ). n + j)) (cond-true _ (Some 0) None (lt-ltb 0 (suc (length rs)) (omega arith))))
    ∙ sym (ap (λ (b : Bool). told (at b)) yes))
    (λ (ne : r.modulus ≡ p → ⊥).
    let no : has_modulus p r ≡ false = ne_eqb r.modulus p ne in
    let more : 1 + k ≡ suc k = omega arith in
    let rest : option_map (λ (j : ℕ). suc n + j) (cond (nat_lt k (length rs)) (Some k) None) ≡ told (suc k) =
    ⊎_elim
    (λ (h : k < length rs).
    let e : suc n + k ≡ n + suc k = omega arith in
    ap (option_map (λ (j : ℕ). suc n + j)) (cond-true _ (Some k) None (lt-ltb k (length rs) h))
    ∙ ap (λ (i : ℕ). Some i) e
    ∙ sym (ap (option_map (λ (j : ℕ). n + j)) (cond-true _ (Some (suc k)) None (lt-ltb (suc k) (suc (length rs)) (omega arith)))))
    (λ (h : length rs ≤ k).
    ap (option_map (λ (j : ℕ). suc n + j)) (cond-false _ (Some k) None (le-ltb k (length rs) h))
    ∙ sym (ap (option_map (λ (j : ℕ). n + j)) (cond-false _ (Some (suc k)) None (le-ltb (suc k) (suc (length rs)) (omega arith)))))
    (cases_lt k (length rs))
    in
    cond-false _ _ _ no
    ∙ number_position_from (suc n) rs p
    ∙ rest
    ∙ ap told (sym more)
    ∙ sym (ap (λ (b : Bool). told (at b)) no))
    (cases_eq r.modulus p)

pub number_position : (rs : List Record) (p : ℕ) (o : Option ℕ) → o ≡ position (has_modulus p) rs → number_of rs p ≡ option_map (λ (i : ℕ). 1 + i) o
number_position rs p o h = number_position_from 1 rs p ∙ ap (option_map (λ (i : ℕ). 1 + i)) (sym h)

-- where p is not listed, no record has it
unlisted_from : (n : ℕ) (rs : List Record) (p : ℕ) → number_from n rs p ≡ None → (i : ℕ) (d : Record) → i < length rs → (get_or rs i d).modulus ≢ p
unfolding number_from
unlisted_from n [] p none i d h = absurd (omega arith)
unlisted_from n (r ∷ rs) p none i d h =
    ⊎_elim
    (λ (e : r.modulus ≡ p).
    let found : Some n ≡ None = sym (cond-true _ (Some n) (number_from (suc n) rs p) (eq-eqb r.modulus p e)) ∙ none in
    absurd (let z : ◌≡◌ {A = ℕ} 0 1 = cc in omega arith))
    (λ (ne : r.modulus ≡ p → ⊥).
    rest i (ne, unlisted_from (suc n) rs p (sym (cond-false _ (Some n) (number_from (suc n) rs p) (ne_eqb r.modulus p ne)) ∙ none)) h)
    (cases_eq r.modulus p)
  where
    rest : (i : ℕ) → (r.modulus ≢ p) × ((j : ℕ) (d : Record) → j < length rs → (get_or rs j d).modulus ≢ p) → i < suc (length rs) → (get_or (r ∷ rs) i d).modulus ≢ p
    rest zero f h = f.0
    rest (suc j) f h = f.1 j d (omega arith)

pub unlisted : (first : ℕ) (rs : List Record) (p : ℕ) → number_of rs p ≡ None → (i : ℕ) → 1 ≤ i → i ≤ length rs → modulus_in (rows first rs) i ≢ p
unlisted first rs p none zero low high = absurd (omega arith)
unlisted first rs p none (suc i) low high = unlisted_from 1 rs p none i (head 0) (omega arith)

-- what every record passes, each does
pub every_at : (test : Record → Bool) (rs : List Record) (i : ℕ) (d : Record) → every test rs ≡ true → i < length rs → test (get_or rs i d) ≡ true
unfolding every
every_at test [] i d all h = absurd (omega arith)
every_at test (r ∷ rs) zero d all h = (and_parts _ _ all).0
every_at test (r ∷ rs) (suc i) d all h = every_at test rs i d (and_parts _ _ all).1 (omega arith)

-- and what each passes, every one does
pub every_from : (test : Record → Bool) (rs : List Record) (d : Record) → ((i : ℕ) → i < length rs → test (get_or rs i d) ≡ true) → every test rs ≡ true
unfolding every
every_from test [] d each = refl
every_from test (r ∷ rs) d each = and_from _ _ (each 0 (omega arith)) (every_from test rs d (λ i h. each (suc i) (omega arith)))

-- the record of a number, past the head
pub row_at : (first : ℕ) (rs : List Record) (n : ℕ) → 1 ≤ n → row (rows first rs) n ≡ get_or rs (n - 1) (head 0)
row_at first rs zero low = absurd (omega arith)
row_at first rs (suc n) low = let e : n ≡ suc n - 1 = omega arith in ap (λ (i : ℕ). get_or rs i (head 0)) e
