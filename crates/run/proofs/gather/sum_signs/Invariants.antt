use Rattle.std.proofs.Common.{◌≡◌, ℕ, ◌%◌, ◌^◌, ◌<◌, get_or}
use Rattle.run.proofs.Signs.{signs_to}
use Rattle.run.proofs.gather.sum_signs.Given as goal

abbrev pub invariant-loop-u : goal.invariant-loop-u
invariant-loop-u g l =
    let w = g.W.Arithmetic in
    let a = l.arithmetic in
    (r : ℕ) → ((u : ℕ) → u < 8 → get_or l.powers u 0 ≡ r ^ u % w.modulus a) → w.residue a l.sum ≡ signs_to (w.modulus a) r 8 l.number l.u % w.modulus a
