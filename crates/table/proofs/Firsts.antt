-- What an accepted pair passes.
-- Main statement: admitted.
-- Assumes nothing.
use Rattle.std.proofs.Common.{◌≡◌, ℕ, ◌<◌, true, length, None}
use Rattle.std.proofs.lemmas.Bool.{leb-false, not-false}
use Rattle.arithmetic.specs.Causes.{first_cause, modulus_fits, generator_fits, index_fits}
use Rattle.arithmetic.proofs.Causes.{all_fail, none_since}
use Rattle.table.specs.Chain.{Contents, number_of}
use Rattle.table.specs.Entering.{enter_causes}

pub admitted : (t : Contents) (p g : ℕ) → first_cause (enter_causes t p g) ≡ None
    → (modulus_fits p ≡ true) × (generator_fits p g ≡ true) × (index_fits p t.index ≡ true) × (length t.records < 1023) × (number_of t.records p ≡ None)
admitted t p g h =
    let all = all_fail (enter_causes t p g) h in (
      not-false (modulus_fits p) all.0,
      not-false (generator_fits p g) all.1.0,
      not-false (index_fits p t.index) all.1.1.0,
      leb-false 1023 (length t.records) all.1.1.1.0,
      none_since (number_of t.records p) all.1.1.1.1.0,
    )
