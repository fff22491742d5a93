use Rattle.std.proofs.Common.{◌≡◌, ◌%◌, ◌<◌, drop}
use Rattle.published.specs.Numerals.{spelled}
use Rattle.published.proofs.numeral.digits_residue.Given as goal

abbrev pub invariant-loop-digit : goal.invariant-loop-digit
invariant-loop-digit g l =
    (l.rest < l.p) × (spelled l.rest (drop l.digit-index l.digits) % l.p ≡ spelled 0 l.digits % l.p)
