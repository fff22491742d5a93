use Rattle.std.proofs.Common.{ℕ, ◌%◌, ap, ◌∙◌, arith}
use Rattle.theory.specs.Doubling.{doubling_sum}
use Rattle.theory.proofs.Modular.{doubling_sum_under}
use Rattle.run.proofs.WalkSteps.{length_of, inside_of, sum_of, walk_begun, brought}
use Rattle.run.proofs.walk.RowWalk.begin.Goals as goal

pub new-requires : goal.new-requires
new-requires g c = record { length = length_of c.args.share.now.run.now c.args.from c.requires.place }

pub invariant_of-result : goal.invariant_of-result
invariant_of-result g c =
    let m = g.W.Arithmetic.modulus c.args.share.now.arithmetic.now in
    let rows = c.new.ensures in
    rw (rows.arithmetic, rows.index, rows.modulus, rows.generator)
    (record { walking = walk_begun c.args.share.now.run.now c.args.from m _ _ c.requires.place c.args.share.now.same c.bring_in.ensures.value c.bring_in-3.ensures.value })

pub returns-clause-inside : goal.returns-clause-inside
returns-clause-inside g c = inside_of c.args.share.now.run.now c.args.from c.requires.place

pub returns-clause-sum : goal.returns-clause-sum
returns-clause-sum g c =
    let run = c.args.share.now.run.now in
    let m = g.W.Arithmetic.modulus c.args.share.now.arithmetic.now in
    brought m run.modulus (doubling_sum run.modulus run.generator run.index run.taken) _ c.args.share.now.same
    (doubling_sum_under run.modulus run.generator run.index run.taken (omega (arith, run.fit.0.1)))
    (c.bring_in-2.ensures.value ∙ ap (λ (n : ℕ). n % m) (sum_of run c.args.from c.requires.place))
