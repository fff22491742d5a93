-- The theorem is a lemma of Theorems.
use Rattle.theory.proofs.Theorems.{direct_gives_bernoulli}
use Rattle.theory.proofs.direct_sum_gives_bernoulli.Goals as goal

pub returns : goal.returns
returns c = record { theorem = direct_gives_bernoulli }
