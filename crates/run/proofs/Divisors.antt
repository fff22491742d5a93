-- The search for the order of 2 among the divisors of p − 1, each tried with its cofactor.
-- Main statements: tried_none, tried_more, tried_least, least_is_order.
-- Assumes nothing.
use Rattle.std.proofs.Common.{◌≡◌, ℕ, ◌+◌, ◌-◌, ◌*◌, ◌/◌, ◌%◌, ◌^◌, ◌<◌, ◌≤◌, ◌≢◌, sym, ap, ◌∙◌, ⊎_elim, eq-zero-or-pos, mul-le-mul_left, le-div_iff_mul-le, div-mul-le_self, arith, below_more}
use native.Mathlib.Nat.{mod-add-div, mul-div_cancel_left, mul-mod_right}
use native.Mathlib.Decide.{dec_lt}
use Rattle.theory.specs.Doubling.{order}
use Rattle.theory.proofs.OrderOfTwo.{order_is_least_divisor}

-- the divisors of `whole` below d are tried: none of them leaves 1, and no cofactor that leaves 1 is below `least`
pub record Tried (p whole d least : ℕ) : Type 0 where
  pub positive : 0 < d
  pub some : 0 < least
  pub leaves : 2 ^ least % p ≡ 1
  pub small : (e : ℕ) → e < d → 0 < e → whole % e ≡ 0 → 2 ^ e % p ≢ 1
  pub large : (e : ℕ) → e < d → 0 < e → whole % e ≡ 0 → 2 ^ (whole / e) % p ≡ 1 → least ≤ whole / e

pub tried_none : (p whole : ℕ) → 0 < whole → 2 ^ whole % p ≡ 1 → Tried p whole 1 whole
tried_none p whole positive leaves = record {
  positive = omega arith;
  some = positive;
  leaves = leaves;
  small = λ e below some. absurd (omega (arith, below, some));
  large = λ e below some. absurd (omega (arith, below, some));
}

-- one number more, which is no divisor or does not leave 1, and a least cofactor that leaves 1
pub tried_more : (p whole d least next : ℕ) → Tried p whole d least → (whole % d ≡ 0 → 2 ^ d % p ≢ 1) → 0 < next → 2 ^ next % p ≡ 1
    → ((e : ℕ) → e < d → 0 < e → whole % e ≡ 0 → 2 ^ (whole / e) % p ≡ 1 → next ≤ whole / e)
    → (whole % d ≡ 0 → 2 ^ (whole / d) % p ≡ 1 → next ≤ whole / d)
    → Tried p whole (d + 1) next
tried_more p whole d least next tried here some leaves before cofactor = record {
  positive = omega (arith, tried.positive);
  some = some;
  leaves = leaves;
  small = below_more (λ e. 0 < e → whole % e ≡ 0 → 2 ^ e % p ≢ 1) d tried.small (λ _. here);
  large = below_more (λ e. 0 < e → whole % e ≡ 0 → 2 ^ (whole / e) % p ≡ 1 → next ≤ whole / e) d before (λ _. cofactor);
}

-- cofactors fall
pub cofactor_falls : (whole e d : ℕ) → 0 < e → e ≤ d → whole / d ≤ whole / e
cofactor_falls whole e d positive smaller =
    let a : whole / d * e ≤ whole / d * d = mul-le-mul_left (whole / d) smaller in
    let b : whole / d * d ≤ whole = div-mul-le_self whole d in
    (le-div_iff_mul-le {k = e} {x = whole / d} {y = whole} positive).1 (omega arith)

-- the cofactor of a divisor e is a divisor, and e is its cofactor
pub record Cofactor (whole e c : ℕ) : Type 0 where
  pub positive : 0 < c
  pub divides : whole % c ≡ 0
  pub back : whole / c ≡ e

pub cofactor_of : (whole e : ℕ) → 0 < whole → whole % e ≡ 0 → Cofactor whole e (whole / e)
cofactor_of whole e some divides =
    of (whole / e) (omega (arith, mod-add-div whole e, divides))
  where
    of : (c : ℕ) → c * e ≡ whole → Cofactor whole e c
    of c product =
        let positive : 0 < c = ⊎_elim (λ z. absurd (omega (arith, product, ap (λ (n : ℕ). n * e) z, some))) (λ h. h) (eq-zero-or-pos c) in
        record {
          positive = positive;
          divides = ap (λ (n : ℕ). n % c) (sym product) ∙ mul-mod_right c e;
          back = ap (λ (n : ℕ). n / c) (sym product) ∙ mul-div_cancel_left e positive;
        }

-- once d passes the root of `whole`, every divisor is tried or a cofactor of one that is
pub tried_least : (p whole d least : ℕ) → 0 < whole → Tried p whole d least → whole / d < d
    → (e : ℕ) → 0 < e → e < least → whole % e ≡ 0 → 2 ^ e % p ≢ 1
tried_least p whole d least some tried past e positive less divides one =
    elim (dec_lt e d) [
      | yes below ↦ tried.small e below positive divides one
      | no above ↦
          let c = cofactor_of whole e some divides in
          let small : whole / e ≤ whole / d = cofactor_falls whole d e tried.positive (omega (arith, above)) in
          let h = tried.large (whole / e) (omega arith) c.positive c.divides (ap (λ (n : ℕ). 2 ^ n % p) c.back ∙ one) in
          omega (arith, h, c.back, less)
    ]

pub least_is_order : (p d : ℕ) → p % 2 ≡ 1 → 5 ≤ p → 2 ^ (p - 1) % p ≡ 1 → 0 < d → 2 ^ d % p ≡ 1
    → ((e : ℕ) → 0 < e → e < d → (p - 1) % e ≡ 0 → 2 ^ e % p ≢ 1) → d ≡ order p
least_is_order p d odd low whole positive leaves least =
    order_is_least_divisor p (p / 2) (omega arith) (omega arith) d whole positive leaves least
