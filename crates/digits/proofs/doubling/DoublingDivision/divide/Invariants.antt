use Rattle.std.proofs.Common.{◌≡◌, ◌+◌, ◌*◌, ◌^◌, ◌<◌}
use Rattle.digits.proofs.doubling.DoublingDivision.divide.Given as goal

-- after i digits the quotient and the rest make up 2^i·x
abbrev pub invariant-loop-i : goal.invariant-loop-i
invariant-loop-i l = (l.quotient * l.p + l.rest ≡ 2 ^ l._i * (l.initial.quotient * l.p + l.initial.rest)) × (l.rest < l.p)
