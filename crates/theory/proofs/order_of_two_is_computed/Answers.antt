-- The theorems are lemmas of Theorems.
use Rattle.theory.proofs.Theorems.{order_computed, rows_fit, order_least_divisor}
use Rattle.theory.proofs.order_of_two_is_computed.Goals as goal

pub returns : goal.returns
returns c = record { order = order_computed; rows = rows_fit; divisor = order_least_divisor }
