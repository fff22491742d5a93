-- Existence and uniqueness are lemmas of Theorems.
use Rattle.theory.proofs.Theorems.{bernoulli_exist, bernoulli_unique}
use Rattle.theory.proofs.bernoulli_numbers_exist_once.Goals as goal

pub returns : goal.returns
returns c = record { exist = bernoulli_exist; unique = bernoulli_unique }
