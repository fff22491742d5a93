-- The whole list is computed at once; what its tests stand for is a lemma of ExampleTests.
use mathlib.Core.Path.{refl}
use Rattle.theory.specs.Residues.{inverse}
use Rattle.theory.specs.Sums.{sum}
use Rattle.theory.specs.Direct.{direct_quotient, direct_weight, direct_term, direct_sum, direct_result}
use Rattle.theory.specs.Doubling.{first_one, order, row_length_of, row_count, doubling_point, doubling_weight, doubling_term, doubling_sum, doubling_result}
use Rattle.theory.specs.Kinds.{can_run}
use Rattle.theory.proofs.ExampleTests.{tests_told}
use Rattle.theory.proofs.worked_pairs_hold.Goals as goal

pub returns : goal.returns
unfolding inverse sum direct_quotient direct_weight direct_term direct_sum direct_result first_one order row_length_of row_count doubling_point doubling_weight doubling_term doubling_sum doubling_result can_run
returns c = record { computed = refl; told = tests_told }
