-- A share of a doubling run while it is worked, by what the elements of its arithmetic stand for.
-- Assumes nothing.
use Rattle.std.specs.Prelude.{◌≡◌, ℕ, ◌+◌, ◌-◌, ◌*◌, ◌/◌, ◌%◌, ◌≤◌}
use Rattle.theory.specs.Doubling.{row_length_of, doubling_point, doubling_weight, doubling_sum}

-- numbers, and no walk: the walk's own ghost field says this of it, and cannot be given the struct that it stands in

-- after so many terms taken a walk stands at this place of row i; where the place is the length of the row, the row is at
-- its end
pub record InRow (p g k i taken place row_point row_weight point weight : ℕ) : Type 0 where
  pub taken_is : taken ≡ i * row_length_of p + place
  pub within : place ≤ row_length_of p
  pub row_point_is : row_point ≡ doubling_point p g i 0
  pub row_weight_is : row_weight ≡ doubling_weight p g k i 0
  pub point_is : point ≡ doubling_point p g i place
  pub weight_is : weight ≡ doubling_weight p g k i place

-- the walk stands where the run does after the terms that are taken
abbrev pub Walking : ℕ → ℕ → ℕ → ℕ → ℕ → ℕ → ℕ → ℕ → ℕ → Type 0
Walking p g k taken place row_point row_weight point weight =
    InRow p g k ((taken - place) / row_length_of p) taken place row_point row_weight point weight

-- from s to s' the sum grows by the n terms after the first t: whatever else counts beside it
abbrev pub Grows : ℕ → ℕ → ℕ → ℕ → ℕ → ℕ → ℕ → Type 0
Grows p g k t n s s' = (c : ℕ) → (s + c) % p ≡ doubling_sum p g k t → (s' + c) % p ≡ doubling_sum p g k (t + n)
