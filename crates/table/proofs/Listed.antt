-- What holds of all records of a table: their moduli differ, and their pairs are fit.
-- Main statements: moduli_differ, pair_fits, numbered_fits, only_one, decides_modulus, decides_generator.
-- Assumes nothing.
use Rattle.std.proofs.Common.{◌≡◌, ℕ, suc, ◌+◌, ◌-◌, ◌%◌, ◌<◌, true, ◌&&◌, eqb, leb, List, [], ◌∷◌, length, get_or, Some, None, Decides, Option, sym, ap, ◌∙◌, ⊎_elim, arith}
use Rattle.std.proofs.lemmas.Bool.{and_parts, and_from, eqb-true, eq-eqb, ne_eqb, leb-true, le-leb, cases_eq, cond-true, cond-false}
use Rattle.theory.specs.Pairs.{FitModulus, FitGenerator, Fit}
use Rattle.table.specs.declared.pair.Record.{Record}
use Rattle.table.specs.Chain.{chained, rows, head, next_in, modulus_in, number_from, number_of, numbered, every, Only}
use Rattle.arithmetic.specs.Causes.{index_stands, modulus_fits, generator_fits}
use Rattle.table.specs.Fitness.{record_fits, PairFits}
use Rattle.table.proofs.Meetings.{apart}
use Rattle.table.proofs.Records.{numbered_some, every_at, unlisted}

-- two records of a table have two moduli
pub moduli_differ : (first : ℕ) (rs : List Record) → chained first rs ≡ true → (i j : ℕ) → i < length rs → j < length rs
    → (get_or rs i (head 0)).modulus ≡ (get_or rs j (head 0)).modulus → i ≡ j
unfolding chained
moduli_differ first rs up i j hi hj same =
    let e = apart (next_in (rows first rs)) (modulus_in (rows first rs)) (length rs) up (suc i) (suc j) (omega arith) (omega arith) (omega arith) (omega arith) same in
    omega arith

-- the tests say what they are named for
pub decides_modulus : (p : ℕ) → Decides (modulus_fits p) (FitModulus p)
decides_modulus p = (
  λ h. let a = and_parts (eqb (p % 2) 1 && leb 5 p) (leb p 2147483647) h in
      let b = and_parts (eqb (p % 2) 1) (leb 5 p) a.0 in
      (eqb-true (p % 2) 1 b.0, leb-true 5 p b.1, leb-true p 2147483647 a.1),
  λ f. and_from _ _ (and_from _ _ (eq-eqb (p % 2) 1 f.0) (le-leb 5 p f.1)) (le-leb p 2147483647 f.2),
)

pub decides_generator : (p g : ℕ) → Decides (generator_fits p g) (FitGenerator p g)
decides_generator p g = (
  λ h. let a = and_parts (leb 2 g) (leb g (p - 1)) h in (leb-true 2 g a.0, leb-true g (p - 1) a.1),
  λ f. and_from _ _ (le-leb 2 g f.0) (le-leb g (p - 1) f.1),
)

-- a record that a table for the index k may hold has a fit pair
pub pair_fits : (k : ℕ) (r : Record) → index_stands k ≡ true → record_fits k r ≡ true → Fit k r.modulus r.generator
unfolding record_fits
pair_fits k r stands fits =
    let a = and_parts _ _ fits in
    let b = and_parts _ _ a.0 in
    let c = and_parts _ _ b.0 in
    let s = and_parts (eqb (k % 2) 0 && leb 2 k) (leb k 2147483646) stands in
    let e = and_parts (eqb (k % 2) 0) (leb 2 k) s.0 in (
      (decides_modulus r.modulus).0 c.0,
      (decides_generator r.modulus r.generator).0 c.1,
      (eqb-true (k % 2) 0 e.0, leb-true 2 k e.1, leb-true k (r.modulus - 3) b.1),
    )

-- and so has one that is found by its number
pub numbered_fits : (k : ℕ) (rs : List Record) (n : ℕ) (o : Option Record) → index_stands k ≡ true → every (record_fits k) rs ≡ true
    → o ≡ numbered rs n → PairFits k o
numbered_fits k rs n None stands all h = tt
numbered_fits k rs n (Some r) stands all h =
    let at = numbered_some rs n r (head 0) (sym h) in
    pair_fits k r stands (ap (record_fits k) (sym at.2) ∙ every_at (record_fits k) rs (n - 1) (head 0) all (omega (arith, at.0, at.1)))

-- the record found has the modulus
has_it : (m : ℕ) (rs : List Record) (p n : ℕ) (d : Record) → number_from m rs p ≡ Some n → (i : ℕ) × (i < length rs) × (m + i ≡ n) × ((get_or rs i d).modulus ≡ p)
unfolding number_from
has_it m [] p n d h = absurd (let z : ◌≡◌ {A = ℕ} 0 1 = cc in omega arith)
has_it m (r ∷ rs) p n d h =
    ⊎_elim
    (λ (e : r.modulus ≡ p).
    let found : Some m ≡ Some n = sym (cond-true _ (Some m) (number_from (suc m) rs p) (eq-eqb r.modulus p e)) ∙ h in
    let same : m ≡ n = cc in
    (0, omega arith, omega arith, e))
    (λ (ne : r.modulus ≡ p → ⊥).
    let rest = has_it (suc m) rs p n d (sym (cond-false _ (Some m) (number_from (suc m) rs p) (ne_eqb r.modulus p ne)) ∙ h) in
    (suc rest.0, omega (arith, rest.1), omega (arith, rest.2), rest.3))
    (cases_eq r.modulus p)

pub only_one : (first : ℕ) (rs : List Record) (p : ℕ) (o : Option ℕ) → chained first rs ≡ true → o ≡ number_of rs p → Only rs p o
only_one first rs p None up h = λ i l. unlisted first rs p (sym h) (suc i) (omega arith) l
only_one first rs p (Some n) up h =
    let it = has_it 1 rs p n (head 0) (sym h) in
    λ i l. (
      λ same. let e = moduli_differ first rs up i it.0 l it.1 (same ∙ sym it.3) in omega (arith, it.2, e),
      λ e. let j : i ≡ it.0 = omega (arith, it.2) in ap (λ (k : ℕ). (get_or rs k (head 0)).modulus) j ∙ it.3,
    )
