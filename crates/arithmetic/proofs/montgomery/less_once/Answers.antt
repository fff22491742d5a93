use Rattle.std.proofs.Common.{sym}
use native.Mathlib.Nat.{mod-eq-sub-mod}
use Rattle.arithmetic.proofs.montgomery.less_once.Goals as goal

pub returns-else-n-p-clause-value : goal.returns-else-n-p-clause-value
returns-else-n-p-clause-value c = sym (mod-eq-sub-mod c.if-n-p.false)
