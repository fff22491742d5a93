use Rattle.std.proofs.Common.{◌≡◌, ℕ, ◌%◌, ◌^◌, ◌<◌, get_or}
use Rattle.run.proofs.Signs.{cells_to}
use Rattle.run.proofs.gather.gather.Given as goal

abbrev pub invariant-loop-number : goal.invariant-loop-number
invariant-loop-number g l =
    let w = g.W.Arithmetic in
    let a = l.arithmetic in
    (r : ℕ) → ((u : ℕ) → u < 8 → get_or l.powers u 0 ≡ r ^ u % w.modulus a) → w.residue a l.sum ≡ cells_to (w.modulus a) r 8 l.cells l.number % w.modulus a
