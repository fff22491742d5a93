-- A table after a pair was linked into its chain and pushed behind its records.
-- Main statements: entered_every, linked_chain, linked_pairs, linked_records, linked_every.
-- Assumes nothing.
use Rattle.std.proofs.Common.{◌≡◌, ℕ, suc, ◌<◌, ◌≤◌, Bool, true, ◌&&◌, ◌≢◌, List, [], ◌∷◌, ◌++◌, map, length, set, None, sym, refl, ap, ◌∙◌, subst, ⊎_elim, arith}
use Rattle.std.proofs.lemmas.List.{length-set, length_push, get_or-set_same, get_or-set_other, get_or_append_left, get_or_push, map_push, map-set, set-get_or, get_or-map}
use Rattle.std.proofs.lemmas.Bool.{and_parts, and_from, cases_eq}
use Rattle.table.specs.declared.pair.Pair.{Pair}
use Rattle.table.specs.declared.pair.Record.{Record}
use Rattle.table.specs.Chain.{rises, chained, pairs_along, walk, place, insert, rows, row, head, next_in, modulus_in, pair_in, relinked, every, number_of}
use Rattle.table.specs.Entering.{waiting_record, unlinked}
use Rattle.table.proofs.Chains.{place_stands, inserted}
use Rattle.table.proofs.Records.{unlisted}

every_push : (test : Record → Bool) (rs : List Record) (r : Record) → every test rs ≡ true → test r ≡ true → every test (rs ++ r ∷ []) ≡ true
unfolding every
every_push test [] r all h = and_from _ _ h refl
every_push test (x ∷ rs) r all h =
    let parts = and_parts _ _ all in
    and_from _ _ parts.0 (every_push test rs r parts.1 h)

-- a test that does not look at links
every_unlinked : (test : Record → Bool) → ((r : Record) → test (relinked r 0) ≡ test r) → (rs : List Record) → every test (unlinked rs) ≡ every test rs
unfolding every
every_unlinked test blind [] = refl
every_unlinked test blind (r ∷ rs) =
    ap (λ (b : Bool). b && every test (unlinked rs)) (blind r) ∙ ap (λ (b : Bool). test r && b) (every_unlinked test blind rs)

-- entering a record that passes, after records that all pass
pub entered_every : (test : Record → Bool) → ((r : Record) → test (relinked r 0) ≡ test r) → (rs rs' : List Record) (p g : ℕ)
    → unlinked rs' ≡ unlinked rs ++ waiting_record 0 p g ∷ [] → every test rs ≡ true → test (waiting_record 0 p g) ≡ true → every test rs' ≡ true
entered_every test blind rs rs' p g now all fits =
    sym (every_unlinked test blind rs')
    ∙ ap (every test) now
    ∙ every_push test (unlinked rs) (waiting_record 0 p g) (every_unlinked test blind rs ∙ all) fits

-- the place of a modulus is a record, or the head
pub place_within : (first : ℕ) (rs : List Record) (p at : ℕ) → chained first rs ≡ true → 0 < p
    → at ≡ place (next_in (rows first rs)) (modulus_in (rows first rs)) p (length rs) 0 → at ≤ length rs
unfolding chained
place_within first rs p at up low here =
    let s = place_stands (next_in (rows first rs)) (modulus_in (rows first rs)) (length rs) p (length rs) 0 (omega arith) low up in
    omega (arith, s.0)

module _ (first first' : ℕ) (rs mid rs' : List Record) (p g at n : ℕ)
    (up : chained first rs ≡ true) (absent : number_of rs p ≡ None) (low : 0 < p)
    (here : at ≡ place (next_in (rows first rs)) (modulus_in (rows first rs)) p (length rs) 0) (last : n ≡ suc (length rs))
    (linked : rows first' mid ≡ set (rows first rs) at (relinked (row (rows first rs) at) n))
    (pushed : rs' ≡ mid ++ waiting_record (next_in (rows first rs) at) p g ∷ []) where
  linked_within : at ≤ length rs
  linked_within = place_within first rs p at up low here

  -- the rows now: those before with one relinked, and the new one
  now_rows : rows first' rs' ≡ set (rows first rs) at (relinked (row (rows first rs) at) n) ++ waiting_record (next_in (rows first rs) at) p g ∷ []
  now_rows =
      ap (λ (xs : List Record). rows first' xs) pushed
      ∙ ap (λ (xs : List Record). xs ++ waiting_record (next_in (rows first rs) at) p g ∷ []) linked

  long : length (set (rows first rs) at (relinked (row (rows first rs) at) n)) ≡ suc (length rs)
  long = length-set (rows first rs) at (relinked (row (rows first rs) at) n)

  count_now : length rs' ≡ suc (length rs)
  count_now =
      let e = ap length now_rows in
      let f = length_push (set (rows first rs) at (relinked (row (rows first rs) at) n)) (waiting_record (next_in (rows first rs) at) p g) in
      omega (arith, e, f, long)

  kept_row : (i : ℕ) → i ≤ length rs → row (rows first' rs') i ≡ row (set (rows first rs) at (relinked (row (rows first rs) at) n)) i
  kept_row i h =
      ap (λ (xs : List Record). row xs i) now_rows
      ∙ get_or_append_left (set (rows first rs) at (relinked (row (rows first rs) at) n)) (waiting_record (next_in (rows first rs) at) p g ∷ []) (head 0) i (omega (arith, long))

  old_row : (i : ℕ) → i ≤ length rs → i ≢ at → row (rows first' rs') i ≡ row (rows first rs) i
  old_row i h other = kept_row i h ∙ get_or-set_other (rows first rs) at i (relinked (row (rows first rs) at) n) (head 0) other

  at_row : row (rows first' rs') at ≡ relinked (row (rows first rs) at) n
  at_row =
      kept_row at linked_within
      ∙ get_or-set_same (rows first rs) at (relinked (row (rows first rs) at) n) (head 0) (omega (arith, linked_within))

  new_row : row (rows first' rs') (suc (length rs)) ≡ waiting_record (next_in (rows first rs) at) p g
  new_row =
      ap (λ (xs : List Record). row xs (suc (length rs))) now_rows
      ∙ get_or_push (set (rows first rs) at (relinked (row (rows first rs) at) n)) (waiting_record (next_in (rows first rs) at) p g) (head 0) (suc (length rs)) long

  same_pair : (i : ℕ) → i ≤ length rs → pair_in (rows first' rs') i ≡ pair_in (rows first rs) i
  same_pair i h =
      let pair : Record → Pair = λ r. record { modulus = r.modulus; generator = r.generator } in
      ⊎_elim
      (λ (e : i ≡ at).
      ap (λ (j : ℕ). pair_in (rows first' rs') j) e ∙ ap pair at_row ∙ ap (λ (j : ℕ). pair_in (rows first rs) j) (sym e))
      (λ (ne : i ≡ at → ⊥). ap pair (old_row i h ne))
      (cases_eq i at)

  both : (rises (next_in (rows first' rs')) (modulus_in (rows first' rs')) (suc (length rs)) (suc (length rs)) 0 ≡ true)
      × (map (pair_in (rows first' rs')) (walk (next_in (rows first' rs')) (suc (length rs)) 0)
      ≡ insert (record { modulus = p; generator = g }) (map (pair_in (rows first rs)) (walk (next_in (rows first rs)) (length rs) 0)))
  unfolding chained
  both =
      inserted (next_in (rows first rs)) (next_in (rows first' rs')) (pair_in (rows first rs)) (pair_in (rows first' rs')) (length rs) at
      (record { modulus = p; generator = g })
      (λ i h other. ap (λ (r : Record). r.next) (old_row i h other))
      same_pair
      (ap (λ (r : Record). r.next) at_row ∙ last)
      (ap (λ (r : Record). r.next) new_row)
      (ap (λ (r : Record). record { modulus = r.modulus; generator = r.generator }) new_row)
      (unlisted first rs p absent) (length rs) 0 (omega arith) low up (sym here)

  pub linked_chain : chained first' rs' ≡ true
  unfolding chained
  linked_chain =
      subst (λ (c : ℕ). rises (next_in (rows first' rs')) (modulus_in (rows first' rs')) c c 0 ≡ true) (sym count_now) both.0

  pub linked_pairs : pairs_along first' rs' ≡ insert (record { modulus = p; generator = g }) (pairs_along first rs)
  unfolding pairs_along
  linked_pairs =
      ap (λ (c : ℕ). map (pair_in (rows first' rs')) (walk (next_in (rows first' rs')) c 0)) count_now ∙ both.1

  pub linked_records : unlinked rs' ≡ unlinked rs ++ waiting_record 0 p g ∷ []
  linked_records =
      let f : Record → Record = λ r. relinked r 0 in
      let whole : unlinked (rows first' mid) ≡ unlinked (rows first rs) =
      ap (map f) linked
      ∙ map-set f (rows first rs) at (relinked (row (rows first rs) at) n)
      ∙ ap (λ (r : Record). set (map f (rows first rs)) at r) (sym (get_or-map f (rows first rs) at (head 0) (head 0) (omega (arith, linked_within))))
      ∙ set-get_or (map f (rows first rs)) at (head 0)
      in
      let tails : unlinked mid ≡ unlinked rs = cc in
      ap (map f) pushed
      ∙ map_push f mid (waiting_record (next_in (rows first rs) at) p g)
      ∙ ap (λ (xs : List Record). xs ++ waiting_record 0 p g ∷ []) tails

  pub linked_every : (test : Record → Bool) → ((r : Record) → test (relinked r 0) ≡ test r) → every test rs ≡ true
      → test (waiting_record 0 p g) ≡ true → every test rs' ≡ true
  linked_every test blind all fits = entered_every test blind rs rs' p g linked_records all fits
