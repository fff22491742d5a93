-- The theorems are lemmas of Theorems.
use Rattle.theory.proofs.Theorems.{doubling_gives_bernoulli, sound_rows_fit}
use Rattle.theory.proofs.doubling_sum_gives_bernoulli.Goals as goal

pub returns : goal.returns
returns c = record { theorem = doubling_gives_bernoulli; rows = sound_rows_fit }
