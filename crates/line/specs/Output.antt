-- Putting bytes out into a lent output.
-- Assumes nothing.
use Rattle.std.specs.Prelude.{◌≡◌, ℕ, ◌<◌, ◌≤◌, List, ◌++◌, length, drop, Ok, Err, Result}
use Rattle.arithmetic.specs.declared.refusal.Refusal.{Refusal}
use Rattle.arithmetic.specs.declared.refusal.Refusal.TheVariants.{OutputShort}

-- the bytes were put out: they stand at the front of the output, all of them, and the rest of it is as it was;
-- or the output is shorter than they are, and all of it is as it was
abbrev pub PutOut : List ℕ → List ℕ → List ℕ → Result ℕ Refusal → Type 0
PutOut bytes before after (Ok n) = (n ≡ length bytes) × (n ≤ length before) × (after ≡ bytes ++ drop n before)
PutOut bytes before after (Err e) = (length before < length bytes) × (e ≡ OutputShort) × (after ≡ before)
