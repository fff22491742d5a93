-- Why opening and filling refuse, and when they do not.
-- Main statements: opened, not_listed, other_generator, already_filled, fills, filling.
-- Assumes nothing.
use Rattle.std.proofs.Common.{◌≡◌, ℕ, ◌-◌, ◌%◌, true, false, not, ◌≢◌, [], ◌∷◌, is_some, Some, None, Ok, Err, Option, Result, sym, ap, ◌∙◌, subst, arith}
use Rattle.std.proofs.lemmas.Bool.{and_from, eq-eqb, ne_eqb, le-leb, not-false, not_from_true, eqb-true}
use Rattle.theory.specs.declared.kind.Kind.{Kind}
use Rattle.theory.specs.Kinds.{can_run}
use Rattle.theory.specs.Pairs.{Fit}
use Rattle.arithmetic.specs.declared.refusal.Refusal.{Refusal}
use Rattle.arithmetic.specs.declared.refusal.Refusal.TheVariants.{OtherGenerator, NotListed, AlreadyFilled, NotUsable}
use Rattle.arithmetic.specs.Causes.{first_cause, index_stands, modulus_fits, generator_fits, index_fits}
use Rattle.arithmetic.proofs.Causes.{all_fail, none_first, first_past}
use Rattle.run.specs.declared.state.Run.{Run}
use Rattle.run.specs.Calls.{Stands, fit_causes}
use Rattle.run.specs.Calls as run-calls
use Rattle.table.specs.declared.pair.Record.{Record}
use Rattle.table.specs.Chain.{Contents}
use Rattle.table.proofs.Listed.{decides_modulus, decides_generator}
use Rattle.book.specs.Books.{Opened, open_causes, has_generator, fill_causes}
use Rattle.book.specs.Worked.{record_of, waits_not}
use Rattle.book.proofs.Lookups.{record_has}

-- a pair that is fit for its index is not refused
fit_passes : (k p g : ℕ) → Fit k p g → first_cause (fit_causes k p g) ≡ None
fit_passes k p g fit =
    let index = and_from _ _ (and_from _ _ (eq-eqb (k % 2) 0 fit.2.0) (le-leb 2 k fit.2.1)) (le-leb k 2147483646 (omega arith)) in
    none_first
    (fit_causes k p g)
    (not_from_true (index_stands k) index, (not_from_true (modulus_fits p) ((decides_modulus p).1 fit.0), (not_from_true (generator_fits p g) ((decides_generator p g).1 fit.1), (not_from_true (index_fits p k) (le-leb k (p - 3) fit.2.2), tt))))

-- a run opened for the pair of a record that waits
module _ (t : Contents) (kind : Kind) (p : ℕ) (r : Record) (found : record_of t.records p ≡ Some r) (empty : is_some r.residue ≡ false)
    (fit : Fit t.index r.modulus r.generator) where
  -- all that is left to refuse is the kind of run
  last_cause : first_cause (open_causes t kind p) ≡ first_cause ((not (can_run kind p t.index), NotUsable) ∷ [])
  last_cause = rw (found, empty)

  run_cause : first_cause (run-calls.open_causes kind t.index r.modulus r.generator) ≡ first_cause (open_causes t kind p)
  run_cause =
      first_past (fit_causes t.index r.modulus r.generator) ((not (can_run kind r.modulus t.index), NotUsable) ∷ []) (fit_passes t.index r.modulus r.generator fit)
      ∙ ap (λ (m : ℕ). first_cause ((not (can_run kind m t.index), NotUsable) ∷ [])) (record_has t.records p r found)
      ∙ sym last_cause

  pub opened : (res : Result Run Refusal) → run-calls.Opened kind t.index r.modulus r.generator res → Opened t kind p res
  opened (Ok run) h = (
    sym run_cause ∙ h.0,
    (r, found, subst (λ (m : ℕ). Stands run kind t.index m r.generator 0) (record_has t.records p r found) h.1),
  )
  opened (Err e) h = sym run_cause ∙ h

module _ (t : Contents) (k p g : ℕ) (same : k ≡ t.index) where
  pub not_listed : record_of t.records p ≡ None → first_cause (fill_causes t k p g) ≡ Some NotListed
  not_listed none = let a = eq-eqb k t.index same in rw (a, none)

  module _ (r : Record) (found : record_of t.records p ≡ Some r) where
    pub other_generator : r.generator ≢ g → first_cause (fill_causes t k p g) ≡ Some OtherGenerator
    other_generator other = let a = eq-eqb k t.index same in let b = ne_eqb r.generator g other in rw (a, found, b)

    pub already_filled : r.generator ≡ g → is_some r.residue ≡ true → first_cause (fill_causes t k p g) ≡ Some AlreadyFilled
    already_filled alike full = let a = eq-eqb k t.index same in let b = eq-eqb r.generator g alike in rw (a, found, b, full)

    pub fills : r.generator ≡ g → is_some r.residue ≡ false → first_cause (fill_causes t k p g) ≡ None
    fills alike empty = let a = eq-eqb k t.index same in let b = eq-eqb r.generator g alike in rw (a, found, b, empty)

-- what a residue that is not refused and the record of its modulus have alike, and that the record waits
pub filling : (t : Contents) (k p g : ℕ) (r : Record) → record_of t.records p ≡ Some r → first_cause (fill_causes t k p g) ≡ None
    → (k ≡ t.index) × (r.generator ≡ g) × (is_some r.residue ≡ false)
filling t k p g r found none =
    let all = all_fail (fill_causes t k p g) none in (
      eqb-true k t.index (not-false _ all.0),
      eqb-true r.generator g (subst (λ (o : Option Record). has_generator o g ≡ true) found (not-false _ all.1.1.0)),
      subst (λ (o : Option Record). waits_not o ≡ false) found all.1.1.1.0,
    )
