use Rattle.run.proofs.Divisors.{Tried}
use Rattle.run.proofs.order.order_of_two.Given as goal

abbrev pub invariant-loop-d : goal.invariant-loop-d
invariant-loop-d g l = Tried (g.W.Arithmetic.modulus l.arithmetic) l.whole l.d l.least
