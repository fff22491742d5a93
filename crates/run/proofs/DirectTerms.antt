-- A direct run, term by term: where it stands, and one term further.
-- Main statements: standing_from_progress, next_term, progress_from_standing.
-- Assumes nothing.
use Rattle.std.proofs.Common.{◌≡◌, ℕ, ◌+◌, ◌-◌, ◌*◌, ◌/◌, ◌%◌, ◌^◌, ◌<◌, sym, ap, ◌∙◌, mod-eq_of_lt, arith}
use Rattle.theory.specs.declared.kind.Kind.TheVariants.{Direct}
use Rattle.theory.specs.Direct.{direct_point, direct_quotient, direct_weight, direct_term, direct_sum, half_below}
use Rattle.theory.specs.Kinds.{partial_sum}
use Rattle.theory.specs.Residues.{minus}
use Rattle.theory.proofs.Modular.{mul-mod, minus-mod, direct_point_step, direct_quotient_is, direct_weight_step, direct_term_is, direct_sum_step, direct_sum_under, direct_weight_under}
use Rattle.run.specs.declared.progress.DirectPlace.{DirectPlace}
use Rattle.run.specs.declared.progress.Progress.TheVariants.{Direct as AtDirect}
use Rattle.run.specs.Places.{direct_place, progress_after}

-- after t terms: the sum s, the next term's point x and the last term's weight v
pub record Standing (p g k t s x v : ℕ) : Type 0 where
  pub sum_is : s ≡ direct_sum p g k t
  pub point_is : x ≡ direct_point p g (t + 1)
  pub weight_is : v ≡ direct_weight p g k t

direct_at : (d e : DirectPlace) → AtDirect d ≡ AtDirect e → d ≡ e
direct_at d e same = cc

-- a run's numbers, brought in as their remainders
pub standing_from_progress : (p g k t s x v : ℕ) → 0 < p → s ≡ partial_sum Direct p g k t → AtDirect (record { point = x; weight = v }) ≡ progress_after Direct p g k t
    → Standing p g k t (s % p) x (v % p)
unfolding partial_sum progress_after direct_place
standing_from_progress p g k t s x v positive summed placed =
    let at = direct_at (record { point = x; weight = v }) (direct_place p g k t) placed in
    let weight : v ≡ direct_weight p g k t = ap (λ (d : DirectPlace). d.weight) at in
    record {
      sum_is = ap (λ (n : ℕ). n % p) summed ∙ mod-eq_of_lt (direct_sum_under p g k t positive);
      point_is = ap (λ (d : DirectPlace). d.point) at;
      weight_is = ap (λ (n : ℕ). n % p) weight ∙ mod-eq_of_lt (direct_weight_under p g k t positive);
    }

pub progress_from_standing : (p g k t s x v : ℕ) → Standing p g k t s x v → AtDirect (record { point = x; weight = v }) ≡ progress_after Direct p g k t
unfolding progress_after direct_place
progress_from_standing p g k t s x v at = let a = at.point_is in let b = at.weight_is in cc

pub sum_from_standing : (p g k t s x v : ℕ) → Standing p g k t s x v → s ≡ partial_sum Direct p g k t
unfolding partial_sum
sum_from_standing p g k t s x v at = at.sum_is

-- u, worked by residues
pub half_below_residue : (p g : ℕ) → p % 2 ≡ 1 → (g - 1) % p * ((p / 2 + 1) % p) % p ≡ half_below p g % p
half_below_residue p g odd =
    mul-mod (g - 1) (p / 2 + 1) p ∙ ap (λ (n : ℕ). (g - 1) * n % p) (omega arith)

-- one term further: u is the residue u', and the term is (u − q)·w with the weight w of the term
pub next_term : (p g k t s x v u q w : ℕ) → Standing p g k t s x v → u ≡ half_below p g % p → q ≡ g * x / p → w ≡ v * (g ^ (k - 1) % p) % p
    → Standing p g k (t + 1) ((s + minus p u (q % p) * w % p) % p) (g * x % p) w
next_term p g k t s x v u q w at half quotient weight =
    let same-weight : w ≡ direct_weight p g k (t + 1) =
    weight ∙ ap (λ (n : ℕ). n * (g ^ (k - 1) % p) % p) at.weight_is ∙ sym (direct_weight_step p g k t) in
    let same-quotient : q ≡ direct_quotient p g (t + 1) =
    quotient ∙ ap (λ (n : ℕ). g * n / p) at.point_is ∙ sym (direct_quotient_is p g (t + 1)) in
    let factor : minus p u (q % p) ≡ minus p (half_below p g) (direct_quotient p g (t + 1)) =
    ap (λ (n : ℕ). minus p n (q % p)) half ∙ minus-mod p (half_below p g) q ∙ ap (minus p (half_below p g)) same-quotient in
    let term : minus p u (q % p) * w % p ≡ direct_term p g k (t + 1) =
    ap (λ (n : ℕ). n * w % p) factor ∙ ap (λ (n : ℕ). minus p (half_below p g) (direct_quotient p g (t + 1)) * n % p) same-weight ∙ sym (direct_term_is p g k (t + 1)) in
    record {
      sum_is = ap (λ (n : ℕ). (n + minus p u (q % p) * w % p) % p) at.sum_is ∙ ap (λ (n : ℕ). (direct_sum p g k t + n) % p) term ∙ sym (direct_sum_step p g k t);
      point_is = ap (λ (n : ℕ). g * n % p) at.point_is ∙ sym (direct_point_step p g (t + 1) (omega arith));
      weight_is = same-weight;
    }

-- the same, as an arithmetic works it: its elements stand for s, v, u and the rest
pub term_worked : (m g k t s x v u stride q next w brought factor term s' : ℕ) → Standing m g k t s x v
    → u ≡ half_below m g % m → stride ≡ g ^ (k - 1) % m → q ≡ g * x / m → next ≡ g * x % m → w ≡ v * stride % m
    → brought ≡ q % m → factor ≡ minus m u brought → term ≡ factor * w % m → s' ≡ (s + term) % m
    → Standing m g k (t + 1) s' next w
term_worked m g k t s x v u stride q next w brought factor term s' at half power quotient rest weight bring difference product add =
    let further = next_term m g k t s x v u q w at half quotient (weight ∙ ap (λ (n : ℕ). v * n % m) power) in
    let worked : term ≡ minus m u (q % m) * w % m =
    product ∙ ap (λ (n : ℕ). n * w % m) (difference ∙ ap (minus m u) bring) in
    record {
      sum_is = add ∙ ap (λ (n : ℕ). (s + n) % m) worked ∙ further.sum_is;
      point_is = rest ∙ further.point_is;
      weight_is = further.weight_is;
    }
