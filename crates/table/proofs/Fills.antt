-- A record given its residue: links, moduli and fitness stay.
-- Main statements: filled_chain, filled_every, filled_fits.
-- Assumes nothing.
use Rattle.std.proofs.Common.{◌≡◌, ℕ, zero, suc, ◌<◌, Bool, true, List, length, get_or, set, sym, refl, ap, ◌∙◌, subst, ⊎_elim, arith}
use mathlib.Core.Path.{fun_ext}
use Rattle.std.proofs.lemmas.List.{length-set, get_or-set_same, get_or-set_other}
use Rattle.std.proofs.lemmas.Bool.{and_parts, and_from, cases_eq, lt-ltb}
use Rattle.table.specs.declared.pair.Record.{Record}
use Rattle.table.specs.Chain.{rises, chained, rows, row, head, next_in, modulus_in, every}
use Rattle.table.specs.Filling.{with_residue}
use Rattle.table.specs.Fitness.{record_fits}
use Rattle.table.proofs.Records.{every_at, every_from}

module _ (first : ℕ) (rs : List Record) (i : ℕ) (x : Record) (within : i < length rs) where
  -- what a record and the one in its place have alike, all rows have alike
  alike : (f : Record → ℕ) → f x ≡ f (get_or rs i (head 0)) → (j : ℕ) → f (row (rows first (set rs i x)) j) ≡ f (row (rows first rs) j)
  alike f same zero = refl
  alike f same (suc j) =
      ⊎_elim
      (λ (e : j ≡ i).
      ap (λ (k : ℕ). f (get_or (set rs i x) k (head 0))) e
      ∙ ap f (get_or-set_same rs i x (head 0) within)
      ∙ same
      ∙ ap (λ (k : ℕ). f (get_or rs k (head 0))) (sym e))
      (λ (ne : j ≡ i → ⊥). ap f (get_or-set_other rs i j x (head 0) ne))
      (cases_eq j i)

  pub filled_chain : x.next ≡ (get_or rs i (head 0)).next → x.modulus ≡ (get_or rs i (head 0)).modulus → chained first rs ≡ true
      → chained first (set rs i x) ≡ true
  unfolding chained
  filled_chain next modulus up =
      let a : next_in (rows first rs) ≡ next_in (rows first (set rs i x)) = fun_ext (λ j. sym (alike (λ r. r.next) next j)) in
      let b : modulus_in (rows first rs) ≡ modulus_in (rows first (set rs i x)) = fun_ext (λ j. sym (alike (λ r. r.modulus) modulus j)) in
      let c : length rs ≡ length (set rs i x) = sym (length-set rs i x) in
      subst (λ (n : ℕ). rises (next_in (rows first (set rs i x))) (modulus_in (rows first (set rs i x))) n n 0 ≡ true) c
      (subst (λ (m : ℕ → ℕ). rises (next_in (rows first (set rs i x))) m (length rs) (length rs) 0 ≡ true) b
      (subst (λ (m : ℕ → ℕ). rises m (modulus_in (rows first rs)) (length rs) (length rs) 0 ≡ true) a up))

  pub filled_every : (test : Record → Bool) → every test rs ≡ true → test x ≡ true → every test (set rs i x) ≡ true
  filled_every test all fits =
      every_from test (set rs i x) (head 0)
      (λ j h.
      ⊎_elim
      (λ (e : j ≡ i).
      ap (λ (k : ℕ). test (get_or (set rs i x) k (head 0))) e ∙ ap test (get_or-set_same rs i x (head 0) within) ∙ fits)
      (λ (ne : j ≡ i → ⊥). ap test (get_or-set_other rs i j x (head 0) ne) ∙ every_at test rs j (head 0) all (omega (arith, length-set rs i x)))
      (cases_eq j i))

-- a fit record stays fit with a residue by its modulus
pub filled_fits : (k : ℕ) (r : Record) (v : ℕ) → record_fits k r ≡ true → v < r.modulus → record_fits k (with_residue r v) ≡ true
unfolding record_fits
filled_fits k r v fits under = and_from _ _ (and_parts _ _ fits).0 (lt-ltb v r.modulus under)
