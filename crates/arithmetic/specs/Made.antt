-- What making a modulus, an arithmetic or a digit source promises.
-- Assumes nothing.
use Rattle.std.specs.Prelude.{◌≡◌, ℕ, Ok, Err, Result}
use Rattle.theory.specs.Pairs.{FitModulus}
use Rattle.arithmetic.specs.declared.refusal.Refusal.{Refusal}
use Rattle.arithmetic.specs.declared.refusal.Refusal.TheVariants.{Modulus}

-- made for the number p: it has the modulus p where p is fit for one, and otherwise the refusal says that it is not
abbrev pub Made : {X : Type 0} → ℕ → (X → ℕ) → Result X Refusal → Type 0
Made p modulus_of (Ok x) = FitModulus p × (modulus_of x ≡ p)
Made p modulus_of (Err e) = (FitModulus p → ⊥) × (e ≡ Modulus)

-- the number p was tried as a modulus: it is fit for one, or the refusal says that it is not
abbrev pub Tried : {X : Type 0} → ℕ → Result X Refusal → Type 0
Tried p (Ok x) = FitModulus p
Tried p (Err e) = (FitModulus p → ⊥) × (e ≡ Modulus)
