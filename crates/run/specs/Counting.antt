-- Counting on: groups of w binary digits, and the cells that gather the weights of groups with the same digits.
-- Assumes nothing.
use Rattle.std.specs.Prelude.{◌≡◌, ℕ, ◌+◌, ◌-◌, ◌*◌, ◌/◌, ◌%◌, ◌^◌, ◌≤◌, min, List, slice_index}
use Rattle.digits.specs.Counts.{capped}
use Rattle.digits.specs.Digits.{digit}
use Rattle.theory.specs.Residues.{signed}
use Rattle.theory.specs.Sums.{sum}
use Rattle.run.specs.Stretches.{stretch}

-- the sign sum of a cell's number c: the sum of r^u over its w digits, negative where digit u is 1
unfoldable pub sign_sum : ℕ → ℕ → ℕ → ℕ → ℕ
sign_sum p r w c = sum w (λ u. signed p (digit w u c) (r ^ u))

-- what 2^w cells stand for: every cell times the sign sum of its number
unfoldable pub weighed : ℕ → ℕ → ℕ → List ℕ → ℕ
weighed p r w cells = sum (2 ^ w) (λ c. slice_index cells c * sign_sum p r w c)

-- how many groups of w terms a share of c terms has that begins at place j of a row of n: those in what is left of the
-- row, those of the whole rows after it, and those in the last piece
unfoldable pub groups_of : ℕ → ℕ → ℕ → ℕ → ℕ
groups_of w n j c =
    let rest = c - (n - j) in
    min c (n - j) / w + rest / n * (n / w) + rest % n / w

-- every cell holds 0
abbrev pub Zeroes : List ℕ → Type 0
Zeroes cells = (i : ℕ) → slice_index cells i ≡ 0

-- n groups of w terms are counted from the point x and the weight v: the next point and weight are x' and v', and what
-- the cells stand for has grown by the terms
pub record Counted (p r w n x v x' v' : ℕ) (before after : List ℕ) : Type 0 where
  pub point_is : x' ≡ 2 ^ (w * n) * x % p
  pub weight_is : v' ≡ v * r ^ (w * n) % p
  pub sum_is : weighed p r w after % p ≡ (weighed p r w before + stretch p r x v (w * n)) % p

-- no cell has grown by more than n weights below p
abbrev pub Room : ℕ → ℕ → List ℕ → List ℕ → Type 0
Room p n before after = (i : ℕ) → slice_index after i ≤ slice_index before i + n * p

-- the source's modulus is as it was, and its count has risen by n groups, up to its cap
abbrev pub HandsOut : {S : Type 0} → (S → ℕ) → (S → ℕ) → S → S → ℕ → Type 0
HandsOut modulus taken before after n = (modulus after ≡ modulus before) × (taken after ≡ capped (taken before + n))
