-- Sign sums digit by digit, and cells one by one, as an arithmetic works them.
-- Main statements: bit-of-digit, sign_plus, sign_minus, cell_more.
-- Assumes nothing.
use Rattle.std.proofs.Common.{◌≡◌, ℕ, ◌+◌, ◌-◌, ◌*◌, ◌%◌, ◌^◌, ◌<◌, List, get_or, sym, ap, ◌∙◌, ap₂}
use native.Mathlib.Nat.{mod-mod, zero-mod}
use lib.Bits.{bit_and}
use Rattle.std.proofs.lemmas.Nat.{and_mask}
use Rattle.digits.specs.Digits.{digit}
use Rattle.theory.specs.Residues.{minus, signed}
use Rattle.theory.specs.Sums.{sum}
use Rattle.theory.proofs.Modular.{mul-mod, add_negative, sum_step}
use Rattle.theory.proofs.Sums.{sum_zero}
use Rattle.run.specs.Counting.{sign_sum}

-- the lowest bit of a number that is shifted
pub bit_of : (n : ℕ) → bit_and n 1 ≡ n % 2
bit_of n = and_mask n 1

-- no digit yet
pub signs_none : (p s : ℕ) (f : ℕ → ℕ) → s ≡ 0 % p → s ≡ sum 0 f % p
signs_none p s f none = none ∙ ap (λ (a : ℕ). a % p) (sym (sum_zero f))

-- the sign sum of the first u digits
abbrev pub signs_to : ℕ → ℕ → ℕ → ℕ → ℕ → ℕ
signs_to p r w c u = sum u (λ i. signed p (digit w i c) (r ^ i))

-- a digit 0 more: the power counts
pub sign_plus : (p r w c u s t s' : ℕ) → digit w u c ≡ 0 → s ≡ signs_to p r w c u % p → t ≡ r ^ u % p → s' ≡ (s + t) % p → s' ≡ signs_to p r w c (u + 1) % p
sign_plus p r w c u s t s' zero-digit before power after =
    after
    ∙ ap₂ (λ (a b : ℕ). (a + b) % p) before (power ∙ ap (λ (d : ℕ). signed p d (r ^ u)) (sym zero-digit))
    ∙ sym (sum_step p u (λ i. signed p (digit w i c) (r ^ i)))

-- a digit 1 more: the negative of the power counts
pub sign_minus : (p r w c u s t s' : ℕ) → 0 < p → digit w u c ≡ 1 → s ≡ signs_to p r w c u % p → t ≡ r ^ u % p → s' ≡ minus p s t → s' ≡ signs_to p r w c (u + 1) % p
sign_minus p r w c u s t s' positive one-digit before power after =
    let total = signs_to p r w c u % p in
    after
    ∙ ap₂ (minus p) before power
    ∙ ap (λ (a : ℕ). (total % p + (p - a)) % p) (mod-mod (r ^ u) p)
    ∙ sym (add_negative p total (r ^ u) positive)
    ∙ ap (λ (d : ℕ). (total + signed p d (r ^ u)) % p) (sym one-digit)
    ∙ sym (sum_step p u (λ i. signed p (digit w i c) (r ^ i)))

-- what the cells before number n stand for
abbrev pub cells_to : ℕ → ℕ → ℕ → List ℕ → ℕ → ℕ
cells_to p r w cells n = sum n (λ c. get_or cells c 0 * sign_sum p r w c)

-- one cell more
pub cell_more : (p r w n cell s v t product s' : ℕ) (cells : List ℕ) → cell ≡ get_or cells n 0 → s ≡ cells_to p r w cells n % p
    → v ≡ cell % p % p → t ≡ sign_sum p r w n % p → product ≡ v * t % p → s' ≡ (s + product) % p
    → s' ≡ cells_to p r w cells (n + 1) % p
cell_more p r w n cell s v t product s' cells read before weight signs times after =
    let worked : product ≡ get_or cells n 0 * sign_sum p r w n % p =
    times ∙ ap₂ (λ (a b : ℕ). a * b % p) (weight ∙ mod-mod cell p ∙ ap (λ (a : ℕ). a % p) read) signs ∙ mul-mod (get_or cells n 0) (sign_sum p r w n) p in
    after
    ∙ ap₂ (λ (a b : ℕ). (a + b) % p) before worked
    ∙ native.Mathlib.Nat.add-mod-mod (cells_to p r w cells n % p) (get_or cells n 0 * sign_sum p r w n) p
    ∙ sym (sum_step p n (λ c. get_or cells c 0 * sign_sum p r w c))
