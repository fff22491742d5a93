-- The first cause that holds, test by test.
-- Main statements: all_fail, none_first, first_found, first_past.
-- Assumes nothing.
use Rattle.std.proofs.Common.{◌≡◌, ℕ, Bool, true, false, List, [], ◌∷◌, ◌++◌, is_some, Some, None, Option, sym, refl, ◌∙◌, ⊎_elim, arith}
use Rattle.std.proofs.lemmas.Bool.{cond-true, cond-false, cases_Bool}
use Rattle.std.specs.List.{AllByRecursion as All}
use Rattle.arithmetic.specs.Causes.{first_cause}

-- where no cause holds, every test is false
pub all_fail : {X : Type 0} (ts : List (Bool × X)) → first_cause ts ≡ None → All (λ t. t.0 ≡ false) ts
all_fail [] h = tt
all_fail (t ∷ ts) h =
    ⊎_elim
    (λ (e : t.0 ≡ true).
    let found : Some t.1 ≡ None = sym (cond-true t.0 (Some t.1) (first_cause ts) e) ∙ h in
    absurd (let z : ◌≡◌ {A = ℕ} 0 1 = cc in omega arith))
    (λ (e : t.0 ≡ false). (e, all_fail ts (sym (cond-false t.0 (Some t.1) (first_cause ts) e) ∙ h)))
    (cases_Bool t.0)

-- and where every test is false, no cause holds
pub none_first : {X : Type 0} (ts : List (Bool × X)) → All (λ t. t.0 ≡ false) ts → first_cause ts ≡ None
none_first [] h = refl
none_first (t ∷ ts) h = cond-false t.0 (Some t.1) (first_cause ts) h.0 ∙ none_first ts h.1

pub none_since : {X : Type 0} (o : Option X) → is_some o ≡ false → o ≡ None
none_since None h = refl
none_since (Some x) h = absurd (let z : ◌≡◌ {A = ℕ} 0 1 = cc in omega arith)

-- tests and then more tests
pub first_found : {X : Type 0} (ts us : List (Bool × X)) (x : X) → first_cause ts ≡ Some x → first_cause (ts ++ us) ≡ Some x
first_found [] us x h = absurd (let z : ◌≡◌ {A = ℕ} 0 1 = cc in omega arith)
first_found (t ∷ ts) us x h =
    ⊎_elim
    (λ (e : t.0 ≡ true). cond-true t.0 (Some t.1) (first_cause (ts ++ us)) e ∙ sym (cond-true t.0 (Some t.1) (first_cause ts) e) ∙ h)
    (λ (e : t.0 ≡ false).
    cond-false t.0 (Some t.1) (first_cause (ts ++ us)) e
    ∙ first_found ts us x (sym (cond-false t.0 (Some t.1) (first_cause ts) e) ∙ h))
    (cases_Bool t.0)

pub first_past : {X : Type 0} (ts us : List (Bool × X)) → first_cause ts ≡ None → first_cause (ts ++ us) ≡ first_cause us
first_past [] us h = refl
first_past (t ∷ ts) us h =
    let all = all_fail (t ∷ ts) h in
    cond-false t.0 (Some t.1) (first_cause (ts ++ us)) all.0 ∙ first_past ts us (none_first ts all.1)
