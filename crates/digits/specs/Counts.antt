-- How many groups a digit source has handed out.
-- Assumes nothing.
use Rattle.std.specs.Prelude.{◌≡◌, ℕ, ◌-◌, ◌^◌, min, Ok, Err, Result}
use Rattle.arithmetic.specs.declared.refusal.Refusal.{Refusal}

-- the count stays at 2^63 − 1 once there
abbrev pub capped : ℕ → ℕ
capped n = min n (2 ^ 63 - 1)

-- a source that is made has handed out n groups
abbrev pub Handed : {X : Type 0} → ℕ → (X → ℕ) → Result X Refusal → Type 0
Handed n taken_of (Ok s) = taken_of s ≡ capped n
Handed n taken_of (Err e) = Unit {0}
