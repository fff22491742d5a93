use Rattle.std.proofs.Common.{◌≡◌, ℕ, ◌%◌, ◌^◌, ◌<◌, length, get_or}
use Rattle.run.proofs.gather.powers_of.Given as goal

abbrev pub invariant-loop-place : goal.invariant-loop-place
invariant-loop-place g l =
    let w = g.W.Arithmetic in
    let a = l.arithmetic in
    ((k : ℕ) → k < l.place-index → get_or l.place-items k 0 ≡ w.residue a l.ratio ^ k % w.modulus a)
    × (w.residue a l.power ≡ w.residue a l.ratio ^ l.place-index % w.modulus a)
    × (length l.place-items ≡ 8)
