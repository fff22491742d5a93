-- Terms of a doubling run on end in a row.
-- Main statements: row_of, weight_places, term_places, sum_stretch, stretch_counts, stretch_grows.
-- Assumes nothing.
use Rattle.std.proofs.Common.{◌≡◌, ℕ, zero, suc, ◌+◌, ◌-◌, ◌*◌, ◌/◌, ◌%◌, ◌^◌, ◌<◌, ◌≤◌, sym, ap, ◌∙◌, ap₂, add-zero, add_assoc, mod-eq_of_lt, add-one, arith}
use native.Mathlib.Nat.{mod-add-mod}
use lib.Arith.{digits_div, digits_mod}
use Rattle.theory.specs.Doubling.{row_length_of, doubling_point, doubling_weight, doubling_term, doubling_sum}
use Rattle.theory.specs.Pairs.{FitModulus}
use Rattle.theory.specs.Residues.{signed}
use Rattle.theory.proofs.Modular.{mul_mod_right, pow-mod, signed-mod, doubling_point_places, doubling_weight_places, doubling_term_is, doubling_sum_step, doubling_sum_under}
use Rattle.theory.proofs.OrderOfTwo.{row_length_positive}
use Rattle.run.specs.Stretches.{stretch}
use Rattle.run.specs.Walks.{Grows}
use Rattle.run.proofs.StretchTerms.{stretch_none, stretch_more, term_after}

pub rows_have_places : (p : ℕ) → FitModulus p → 0 < row_length_of p
rows_have_places p fit = row_length_positive p (p / 2) (omega (arith, fit.0)) (omega (arith, fit.1))

-- term number t, as the place j of row i
pub row_of : (n i j t : ℕ) → t ≡ i * n + j → j < n → (t / n ≡ i) × (t % n ≡ j)
row_of n i j t whole within =
    (ap (λ (m : ℕ). m / n) whole ∙ digits_div i within, ap (λ (m : ℕ). m % n) whole ∙ digits_mod i within)

-- the weight u places on, with the ratio as a residue
pub weight_places : (p g k i j u : ℕ) → doubling_weight p g k i (j + u) ≡ doubling_weight p g k i j * (2 ^ (k - 1) % p) ^ u % p
weight_places p g k i j u =
    doubling_weight_places p g k i j u
    ∙ ap (λ (n : ℕ). doubling_weight p g k i j * n % p) (sym (pow-mod (2 ^ (k - 1)) u p))
    ∙ mul_mod_right (doubling_weight p g k i j) ((2 ^ (k - 1) % p) ^ u) p

-- the term u places on is the term after u terms of a stretch
pub term_places : (p g k i j u : ℕ) → 0 < p
    → doubling_term p g k i (j + u) ≡ term_after p (2 ^ (k - 1) % p) (doubling_point p g i j) (doubling_weight p g k i j) u
term_places p g k i j u positive =
    doubling_term_is p g k i (j + u)
    ∙ ap₂ (λ (x v : ℕ). signed p (2 * x / p) v) (doubling_point_places p g i j u) (weight_places p g k i j u)
    ∙ signed-mod p (2 * (2 ^ u * doubling_point p g i j % p) / p) (doubling_weight p g k i j * (2 ^ (k - 1) % p) ^ u) positive

-- the partial sum m terms on in row i
pub sum_stretch : (p g k i j t m : ℕ) → 0 < p → t ≡ i * row_length_of p + j → j + m ≤ row_length_of p
    → doubling_sum p g k (t + m)
    ≡ (doubling_sum p g k t + stretch p (2 ^ (k - 1) % p) (doubling_point p g i j) (doubling_weight p g k i j) m) % p
sum_stretch p g k i j t zero positive at within =
    ap (doubling_sum p g k) (add-zero t)
    ∙ sym (mod-eq_of_lt (doubling_sum_under p g k t positive))
    ∙ ap (λ (a : ℕ). a % p) (sym (ap (λ (a : ℕ). doubling_sum p g k t + a) (stretch_none p (2 ^ (k - 1) % p) (doubling_point p g i j) (doubling_weight p g k i j)) ∙ add-zero (doubling_sum p g k t)))
sum_stretch p g k i j t (suc m) positive at within =
    let r = 2 ^ (k - 1) % p in
    let x = doubling_point p g i j in
    let v = doubling_weight p g k i j in
    let here = row_of (row_length_of p) i (j + m) (t + m) (omega arith) (omega arith) in
    let term : doubling_term p g k ((t + m) / row_length_of p) ((t + m) % row_length_of p) ≡ term_after p r x v m =
    ap₂ (doubling_term p g k) here.0 here.1 ∙ term_places p g k i j m positive in
    let next : t + suc m ≡ t + m + 1 = omega arith in
    ap (doubling_sum p g k) next
    ∙ doubling_sum_step p g k (t + m)
    ∙ ap₂ (λ (a b : ℕ). (a + b) % p) (sum_stretch p g k i j t m positive at (omega arith)) term
    ∙ mod-add-mod (doubling_sum p g k t + stretch p r x v m) p (term_after p r x v m)
    ∙ ap (λ (a : ℕ). a % p) (add_assoc (doubling_sum p g k t) (stretch p r x v m) (term_after p r x v m)
    ∙ ap (λ (a : ℕ). doubling_sum p g k t + a) (sym (ap (stretch p r x v) (sym (add-one m)) ∙ stretch_more p r x v m)))

-- what a sum grows by, where a stretch counts for it
pub stretch_counts : (p g k i j t m r x v s c : ℕ) → 0 < p → t ≡ i * row_length_of p + j → j + m ≤ row_length_of p → r ≡ 2 ^ (k - 1) % p
    → x ≡ doubling_point p g i j → v ≡ doubling_weight p g k i j → (s + c) % p ≡ doubling_sum p g k t
    → (s + c + stretch p r x v m) % p ≡ doubling_sum p g k (t + m)
stretch_counts p g k i j t m r x v s c positive at within ratio point weight summed =
    let same : stretch p r x v m ≡ stretch p (2 ^ (k - 1) % p) (doubling_point p g i j) (doubling_weight p g k i j) m = cc in
    sym (mod-add-mod (s + c) p (stretch p r x v m))
    ∙ ap₂ (λ (a b : ℕ). (a + b) % p) summed same
    ∙ sym (sum_stretch p g k i j t m positive at within)

-- a sum that a stretch was added to has grown by its terms
pub stretch_grows : (p g k i j t m r x v s s' : ℕ) → 0 < p → t ≡ i * row_length_of p + j → j + m ≤ row_length_of p → r ≡ 2 ^ (k - 1) % p
    → x ≡ doubling_point p g i j → v ≡ doubling_weight p g k i j → s' ≡ (s + stretch p r x v m) % p → Grows p g k t m s s'
stretch_grows p g k i j t m r x v s s' positive at within ratio point weight sum c summed =
    ap (λ (a : ℕ). (a + c) % p) sum
    ∙ mod-add-mod (s + stretch p r x v m) p c
    ∙ ap (λ (a : ℕ). a % p) (omega arith)
    ∙ stretch_counts p g k i j t m r x v s c positive at within ratio point weight summed
