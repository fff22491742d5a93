-- The theorem is a lemma of Theorems.
use Rattle.theory.proofs.Theorems.{power_sums_give}
use Rattle.theory.proofs.power_sums_give_bernoulli.Goals as goal

pub returns : goal.returns
returns c = record { theorem = power_sums_give }
