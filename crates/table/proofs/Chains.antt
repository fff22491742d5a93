-- Rising chains, and a record put into one. Stated of any next and any pairs, so that no list is taken apart.
-- Main statements: rises_step, place_stands, inserted.
-- Assumes nothing.
use Rattle.std.proofs.Common.{◌≡◌, ℕ, zero, suc, ◌<◌, ◌≤◌, true, ◌≢◌, List, [], ◌∷◌, map, length, get_or, sym, refl, ap, ◌∙◌, subst, ⊎_elim, arith}
use Rattle.std.proofs.lemmas.Bool.{and_parts, and_from, ltb-true, lt-ltb, le-ltb, leb-true, le-leb, eqb-true, eq-eqb, cases_lt, cond-true, cond-false}
use Rattle.table.specs.declared.pair.Pair.{Pair}
use Rattle.table.specs.Chain.{rises, walk, place, insert}

-- one step of a rising chain
abbrev pub Step : (ℕ → ℕ) → (ℕ → ℕ) → ℕ → ℕ → Type 0
Step next modulus count i = (1 ≤ next i) × (next i ≤ count) × (modulus i < modulus (next i))

pub rises_step : (next modulus : ℕ → ℕ) (count steps i : ℕ) → rises next modulus count (suc steps) i ≡ true
    → Step next modulus count i × (rises next modulus count steps (next i) ≡ true)
unfolding rises
rises_step next modulus count steps i h =
    let a = and_parts _ _ h in
    let b = and_parts _ _ a.0 in
    let c = and_parts _ _ b.0 in
    ((leb-true 1 (next i) c.0, leb-true (next i) count c.1, ltb-true (modulus i) (modulus (next i)) b.1), a.1)

pub rises_more : (next modulus : ℕ → ℕ) (count steps i : ℕ) → Step next modulus count i
    → rises next modulus count steps (next i) ≡ true → rises next modulus count (suc steps) i ≡ true
unfolding rises
rises_more next modulus count steps i s h =
    and_from _ _
    (and_from _ _ (and_from _ _ (le-leb 1 (next i) s.0) (le-leb (next i) count s.1)) (lt-ltb (modulus i) (modulus (next i)) s.2))
    h

pub rises_end : (next modulus : ℕ → ℕ) (count i : ℕ) → rises next modulus count zero i ≡ true → next i ≡ 0
unfolding rises
rises_end next modulus count i h = eqb-true (next i) 0 h

pub rises_none : (next modulus : ℕ → ℕ) (count i : ℕ) → next i ≡ 0 → rises next modulus count zero i ≡ true
unfolding rises
rises_none next modulus count i h = eq-eqb (next i) 0 h

module _ (next modulus : ℕ → ℕ) (p : ℕ) where
  pub place_on : (steps i : ℕ) → modulus (next i) < p → place next modulus p (suc steps) i ≡ place next modulus p steps (next i)
  unfolding place
  place_on steps i h = cond-true _ _ _ (lt-ltb (modulus (next i)) p h)

  pub place_here : (steps i : ℕ) → p ≤ modulus (next i) → place next modulus p (suc steps) i ≡ i
  unfolding place
  place_here steps i h = cond-false _ _ _ (le-ltb (modulus (next i)) p h)

  pub place_end : (i : ℕ) → place next modulus p zero i ≡ i
  unfolding place
  place_end i = refl

-- the place is a record of the chain from i on, and its modulus is below p
abbrev Stands : (ℕ → ℕ) → ℕ → ℕ → ℕ → ℕ → Type 0
Stands modulus count p i j = (j ≤ count) × (modulus j < p) × (modulus i ≤ modulus j)

pub place_stands : (next modulus : ℕ → ℕ) (count p steps i : ℕ) → i ≤ count → modulus i < p
    → rises next modulus count steps i ≡ true → Stands modulus count p i (place next modulus p steps i)
place_stands next modulus count p zero i within below up =
    subst (λ (j : ℕ). Stands modulus count p i j) (sym (place_end next modulus p i)) (within, below, omega arith)
place_stands next modulus count p (suc steps) i within below up =
    let step = rises_step next modulus count steps i up in
    let s : Step next modulus count i = step.0 in
    ⊎_elim
    (λ (h : modulus (next i) < p).
    let ih = place_stands next modulus count p steps (next i) s.1 h step.1 in
    subst (λ (j : ℕ). Stands modulus count p i j) (sym (place_on next modulus p steps i h)) (ih.0, ih.1, omega arith))
    (λ (h : p ≤ modulus (next i)).
    subst (λ (j : ℕ). Stands modulus count p i j) (sym (place_here next modulus p steps i h)) (within, below, omega arith))
    (cases_lt (modulus (next i)) p)

walk_step : (next : ℕ → ℕ) (steps i : ℕ) → walk next (suc steps) i ≡ next i ∷ walk next steps (next i)
unfolding walk
walk_step next steps i = refl

walk_end : (next : ℕ → ℕ) (i : ℕ) → walk next zero i ≡ []
unfolding walk
walk_end next i = refl

insert_end : (x : Pair) → insert x [] ≡ x ∷ []
unfolding insert
insert_end x = refl

insert_on : (x y : Pair) (ys : List Pair) → y.modulus < x.modulus → insert x (y ∷ ys) ≡ y ∷ insert x ys
unfolding insert
insert_on x y ys h = cond-true _ _ _ (lt-ltb y.modulus x.modulus h)

insert_here : (x y : Pair) (ys : List Pair) → x.modulus ≤ y.modulus → insert x (y ∷ ys) ≡ x ∷ y ∷ ys
unfolding insert
insert_here x y ys h = cond-false _ _ _ (le-ltb y.modulus x.modulus h)

-- a new record, numbered one above the count, put after the record `at` of a chain
module _ (next next' : ℕ → ℕ) (pair pair' : ℕ → Pair) (count at : ℕ) (x : Pair)
    (kept : (i : ℕ) → i ≤ count → i ≢ at → next' i ≡ next i) (same : (i : ℕ) → i ≤ count → pair' i ≡ pair i)
    (after : next' at ≡ suc count) (onward : next' (suc count) ≡ next at) (new : pair' (suc count) ≡ x) where
  -- beyond the place the chain is as it was
  tail : (steps i : ℕ) → i ≤ count → (pair at).modulus < (pair i).modulus → rises next (λ j. (pair j).modulus) count steps i ≡ true
      → (rises next' (λ j. (pair' j).modulus) (suc count) steps i ≡ true) × (map pair' (walk next' steps i) ≡ map pair (walk next steps i))
  tail zero i within above up =
      let other : i ≢ at = λ e. omega (arith, ap (λ (j : ℕ). (pair j).modulus) e) in (
        rises_none next' (λ j. (pair' j).modulus) (suc count) i (kept i within other ∙ rises_end next (λ j. (pair j).modulus) count i up),
        ap (map pair') (walk_end next' i) ∙ ap (map pair) (sym (walk_end next i)),
      )
  tail (suc steps) i within above up =
      let other : i ≢ at = λ e. omega (arith, ap (λ (j : ℕ). (pair j).modulus) e) in
      let m : ℕ → ℕ = λ j. (pair j).modulus in
      let m' : ℕ → ℕ = λ j. (pair' j).modulus in
      let step = rises_step next m count steps i up in
      let s : Step next m count i = step.0 in
      let to : next' i ≡ next i = kept i within other in
      let ih = tail steps (next i) s.1 (omega arith) step.1 in
      let from : m' i ≡ m i = ap (λ (y : Pair). y.modulus) (same i within) in
      let there : m' (next i) ≡ m (next i) = ap (λ (y : Pair). y.modulus) (same (next i) s.1) in (
        rises_more next' m' (suc count) steps i
            (omega arith, omega arith, omega (arith, ap m' to))
            (subst (λ (j : ℕ). rises next' m' (suc count) steps j ≡ true) (sym to) ih.0),
        ap (map pair') (walk_step next' steps i)
            ∙ ap (λ (j : ℕ). pair' j ∷ map pair' (walk next' steps j)) to
            ∙ ap (λ (y : Pair). y ∷ map pair' (walk next' steps (next i))) (same (next i) s.1)
            ∙ ap (λ (ys : List Pair). pair (next i) ∷ ys) ih.1
            ∙ ap (map pair) (sym (walk_step next steps i)),
      )

  -- where the place is i itself, the new record comes after it
  put_here : (steps i : ℕ) → i ≡ at → i ≤ count → (pair i).modulus < x.modulus
      → rises next' (λ j. (pair' j).modulus) (suc count) steps (suc count) ≡ true
      → (rises next' (λ j. (pair' j).modulus) (suc count) (suc steps) i ≡ true)
      × (map pair' (walk next' (suc steps) i) ≡ x ∷ map pair' (walk next' steps (suc count)))
  put_here steps i e within below up =
      let m' : ℕ → ℕ = λ j. (pair' j).modulus in
      let to : next' i ≡ suc count = ap next' e ∙ after in
      let from : m' i ≡ (pair i).modulus = ap (λ (y : Pair). y.modulus) (same i within) in
      let there : m' (next' i) ≡ x.modulus = ap m' to ∙ ap (λ (y : Pair). y.modulus) new in (
        rises_more next' m' (suc count) steps i (omega arith, omega arith, omega arith)
            (subst (λ (j : ℕ). rises next' m' (suc count) steps j ≡ true) (sym to) up),
        ap (map pair') (walk_step next' steps i)
            ∙ ap (λ (j : ℕ). pair' j ∷ map pair' (walk next' steps j)) to
            ∙ ap (λ (y : Pair). y ∷ map pair' (walk next' steps (suc count))) new,
      )

  -- from the new record the chain goes on as it went on from the place
  put_on : (steps i : ℕ) → i ≡ at → (pair i).modulus < x.modulus → x.modulus < (pair (next i)).modulus
      → rises next (λ j. (pair j).modulus) count (suc steps) i ≡ true
      → (rises next' (λ j. (pair' j).modulus) (suc count) (suc steps) (suc count) ≡ true)
      × (map pair' (walk next' (suc steps) (suc count)) ≡ map pair (walk next (suc steps) i))
  put_on steps i e below above up =
      let m : ℕ → ℕ = λ j. (pair j).modulus in
      let m' : ℕ → ℕ = λ j. (pair' j).modulus in
      let step = rises_step next m count steps i up in
      let s : Step next m count i = step.0 in
      let to : next' (suc count) ≡ next i = onward ∙ ap next (sym e) in
      let rest = tail steps (next i) s.1 (omega (arith, ap m e)) step.1 in
      let from : m' (suc count) ≡ x.modulus = ap (λ (y : Pair). y.modulus) new in
      let there : m' (next' (suc count)) ≡ m (next i) = ap m' to ∙ ap (λ (y : Pair). y.modulus) (same (next i) s.1) in (
        rises_more next' m' (suc count) steps (suc count) (omega arith, omega arith, omega arith)
            (subst (λ (j : ℕ). rises next' m' (suc count) steps j ≡ true) (sym to) rest.0),
        ap (map pair') (walk_step next' steps (suc count))
            ∙ ap (λ (j : ℕ). pair' j ∷ map pair' (walk next' steps j)) to
            ∙ ap (λ (y : Pair). y ∷ map pair' (walk next' steps (next i))) (same (next i) s.1)
            ∙ ap (λ (ys : List Pair). pair (next i) ∷ ys) rest.1
            ∙ ap (map pair) (sym (walk_step next steps i)),
      )

  -- where the place is further on, the step from i is as it was
  pass_on : (steps i : ℕ) → i ≢ at → i ≤ count → Step next (λ j. (pair j).modulus) count i → (pair (next i)).modulus < x.modulus
      → (rises next' (λ j. (pair' j).modulus) (suc count) (suc steps) (next i) ≡ true)
      × (map pair' (walk next' (suc steps) (next i)) ≡ insert x (map pair (walk next steps (next i))))
      → (rises next' (λ j. (pair' j).modulus) (suc count) (suc (suc steps)) i ≡ true)
      × (map pair' (walk next' (suc (suc steps)) i) ≡ insert x (map pair (walk next (suc steps) i)))
  pass_on steps i other within s below ih =
      let m : ℕ → ℕ = λ j. (pair j).modulus in
      let m' : ℕ → ℕ = λ j. (pair' j).modulus in
      let to : next' i ≡ next i = kept i within other in
      let from : m' i ≡ m i = ap (λ (y : Pair). y.modulus) (same i within) in
      let there : m' (next' i) ≡ m (next i) = ap m' to ∙ ap (λ (y : Pair). y.modulus) (same (next i) s.1) in (
        rises_more next' m' (suc count) (suc steps) i (omega arith, omega arith, omega arith)
            (subst (λ (j : ℕ). rises next' m' (suc count) (suc steps) j ≡ true) (sym to) ih.0),
        ap (map pair') (walk_step next' (suc steps) i)
            ∙ ap (λ (j : ℕ). pair' j ∷ map pair' (walk next' (suc steps) j)) to
            ∙ ap (λ (y : Pair). y ∷ map pair' (walk next' (suc steps) (next i))) (same (next i) s.1)
            ∙ ap (λ (ys : List Pair). pair (next i) ∷ ys) ih.1
            ∙ sym (insert_on x (pair (next i)) (map pair (walk next steps (next i))) below)
            ∙ ap (λ (ns : List ℕ). insert x (map pair ns)) (sym (walk_step next steps i)),
      )

  -- the chain with the new record rises, and its pairs are those before with the new one in its place
  pub inserted : ((i : ℕ) → 1 ≤ i → i ≤ count → (pair i).modulus ≢ x.modulus) → (steps i : ℕ) → i ≤ count
      → (pair i).modulus < x.modulus → rises next (λ j. (pair j).modulus) count steps i ≡ true
      → place next (λ j. (pair j).modulus) x.modulus steps i ≡ at
      → (rises next' (λ j. (pair' j).modulus) (suc count) (suc steps) i ≡ true)
      × (map pair' (walk next' (suc steps) i) ≡ insert x (map pair (walk next steps i)))
  inserted apart zero i within below up here =
      let m : ℕ → ℕ = λ j. (pair j).modulus in
      let e : i ≡ at = sym (place_end next m x.modulus i) ∙ here in
      let put =
      put_here zero i e within below
      (rises_none next' (λ j. (pair' j).modulus) (suc count) (suc count) (onward ∙ ap next (sym e) ∙ rises_end next m count i up))
      in (
        put.0,
        put.1
            ∙ ap (λ (ns : List ℕ). x ∷ map pair' ns) (walk_end next' (suc count))
            ∙ sym (insert_end x)
            ∙ ap (λ (ns : List ℕ). insert x (map pair ns)) (sym (walk_end next i)),
      )
  inserted apart (suc steps) i within below up here =
      let m : ℕ → ℕ = λ j. (pair j).modulus in
      let step = rises_step next m count steps i up in
      let s : Step next m count i = step.0 in
      ⊎_elim
      (λ (h : m (next i) < x.modulus).
      let on : place next m x.modulus steps (next i) ≡ at = sym (place_on next m x.modulus steps i h) ∙ here in
      let stands = place_stands next m count x.modulus steps (next i) s.1 h step.1 in
      let other : i ≢ at = λ e. omega (arith, ap m (on ∙ sym e), stands.2) in
      pass_on steps i other within s h (inserted apart steps (next i) s.1 h step.1 on))
      (λ (h : x.modulus ≤ m (next i)).
      let e : i ≡ at = sym (place_here next m x.modulus steps i h) ∙ here in
      let above : x.modulus < m (next i) = omega (arith, apart (next i) s.0 s.1) in
      let on = put_on steps i e below above up in
      let put = put_here (suc steps) i e within below on.0 in (
        put.0,
        put.1
            ∙ ap (λ (ys : List Pair). x ∷ ys) on.1
            ∙ ap (λ (ns : List ℕ). x ∷ map pair ns) (walk_step next steps i)
            ∙ sym (insert_here x (pair (next i)) (map pair (walk next steps (next i))) h)
            ∙ ap (λ (ns : List ℕ). insert x (map pair ns)) (sym (walk_step next steps i)),
      ))
      (cases_lt (m (next i)) x.modulus)

-- the records of a walk, one by one
pub length-walk : (next : ℕ → ℕ) (steps i : ℕ) → length (walk next steps i) ≡ steps
unfolding walk
length-walk next zero i = refl
length-walk next (suc steps) i = ap suc (length-walk next steps (next i))

pub walk_first : (next : ℕ → ℕ) (steps i : ℕ) → 0 < steps → get_or (walk next steps i) 0 0 ≡ next i
unfolding walk
walk_first next zero i h = absurd (omega arith)
walk_first next (suc steps) i h = refl

pub walk_more : (next : ℕ → ℕ) (steps i j : ℕ) → suc j < steps → get_or (walk next steps i) (suc j) 0 ≡ next (get_or (walk next steps i) j 0)
unfolding walk
walk_more next zero i j h = absurd (omega arith)
walk_more next (suc steps) i zero h = walk_first next steps (next i) (omega arith)
walk_more next (suc steps) i (suc j) h = walk_more next steps (next i) j (omega arith)

pub walk_within : (next modulus : ℕ → ℕ) (count steps i j : ℕ) → rises next modulus count steps i ≡ true → j < steps
    → (1 ≤ get_or (walk next steps i) j 0) × (get_or (walk next steps i) j 0 ≤ count)
unfolding walk
walk_within next modulus count zero i j up h = absurd (omega arith)
walk_within next modulus count (suc steps) i zero up h =
    let s = rises_step next modulus count steps i up in
    (s.0.0, s.0.1)
walk_within next modulus count (suc steps) i (suc j) up h =
    walk_within next modulus count steps (next i) j (rises_step next modulus count steps i up).1 (omega arith)
