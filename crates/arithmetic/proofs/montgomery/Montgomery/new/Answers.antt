use Rattle.theory.proofs.Modular.{mul-mod}
use Rattle.arithmetic.proofs.montgomery.Montgomery.new.Goals as goal

pub invariant_of-result-clause-squared : goal.invariant_of-result-clause-squared
invariant_of-result-clause-squared c = mul-mod 4294967296 4294967296 c.in_ok-modulus.modulus.number
