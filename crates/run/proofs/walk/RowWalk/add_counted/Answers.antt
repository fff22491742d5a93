use Rattle.std.proofs.Common.{ℕ, ◌+◌, ◌%◌, ap, ◌∙◌}
use native.Mathlib.Nat.{add-mod-mod}
use Rattle.run.specs.Counting.{weighed}
use Rattle.run.proofs.walk.RowWalk.add_counted.Goals as goal

pub returns-clause-sum : goal.returns-clause-sum
returns-clause-sum g c =
    let walk = c.args.self.now in
    let rows = walk.rows in
    let residue = g.W.Arithmetic.residue rows.arithmetic.now in
    let s = residue walk.next.sum in
    let full : ℕ → ℕ = λ m. weighed m (residue rows.ratio) 8 c.args.cells.now in
    c.add-self.ensures.value
    ∙ ap (λ (n : ℕ). (s + n) % g.W.Arithmetic.modulus rows.arithmetic.now) c.gather-gathered.ensures.value
    ∙ ap (λ (m : ℕ). (s + full m % m) % m) rows.same
    ∙ add-mod-mod s (full rows.modulus) rows.modulus
