-- Why a call refuses: the first cause that holds, and the causes that an index and a pair can give.
-- Assumes nothing.
use Rattle.std.specs.Prelude.{ℕ, ◌-◌, ◌%◌, Bool, cond, not, ◌&&◌, List, [], ◌∷◌, Some, None, Option, ◌==◌, nat_le}
use Rattle.arithmetic.specs.declared.refusal.Refusal.{Refusal}
use Rattle.arithmetic.specs.declared.refusal.Refusal.TheVariants.{Index, Modulus, Generator, IndexAboveModulus}

-- each cause with its test, in the order in which they are tried: the first whose test is true, or none
abbrev pub first_cause : {X : Type 0} → List (Bool × X) → Option X
first_cause [] = None
first_cause (c ∷ cs) = cond c.0 (Some c.1) (first_cause cs)

-- an index that some pair can serve: even, and from 2 to 2147483646
abbrev pub index_stands : ℕ → Bool
index_stands k = k % 2 == 0 && nat_le 2 k && nat_le k 2147483646

-- a modulus: odd, and from 5 to 2147483647
abbrev pub modulus_fits : ℕ → Bool
modulus_fits p = p % 2 == 1 && nat_le 5 p && nat_le p 2147483647

-- a generator for p: from 2 to p − 1
abbrev pub generator_fits : ℕ → ℕ → Bool
generator_fits p g = nat_le 2 g && nat_le g (p - 1)

-- the index is not above p − 3
abbrev pub index_fits : ℕ → ℕ → Bool
index_fits p k = nat_le k (p - 3)

-- an index by itself
abbrev pub index_causes : ℕ → List (Bool × Refusal)
index_causes k = (not (index_stands k), Index) ∷ []

-- a pair for the index k, by itself
abbrev pub pair_causes : ℕ → ℕ → ℕ → List (Bool × Refusal)
pair_causes k p g =
    (not (modulus_fits p), Modulus) ∷ (not (generator_fits p g), Generator) ∷ (not (index_fits p k), IndexAboveModulus) ∷ []
