use Rattle.std.proofs.Common.{◌≡◌, ◌+◌, ◌<◌, sym, ap, ◌∙◌, arith}
use Rattle.theory.specs.Doubling.{doubling_sum}
use Rattle.run.proofs.WalkSteps.{reached_by, summed_alone, alone_summed}
use Rattle.run.proofs.share.Share.take_doubling.Goals as goal

pub loop-left-init : goal.loop-left-init
loop-left-init g c =
    let run = c.args.self.now.run.now in
    let begun = c.begin-walk.ensures in (
      begun.arithmetic,
      begun.index,
      begun.modulus,
      begun.generator,
      record {
        inside = begun.inside;
        whole = omega (arith, begun.taken);
        summed = alone_summed run.modulus run.generator run.index c.begin-walk.result.taken _ (omega (arith, run.fit.0.1))
            (begun.sum ∙ ap (doubling_sum run.modulus run.generator run.index) (sym begun.taken));
      },
    )

pub returns : goal.returns
returns g c =
    let run = c.args.self.now.run.now in
    let a = c.args.self.now.arithmetic.now in
    let walk = c.loop-left.walk in
    let inv = c.loop-left.invariant in
    let at = inv.4 in
    let under : g.W.Arithmetic.residue a walk.next.sum < g.W.Arithmetic.modulus a = g.met.W.Arithmetic.under a walk.next.sum in
    let all : walk.taken ≡ run.taken + c.args.self.now.terms = omega (arith, at.whole, c.loop-left-test.false) in
    record {
      reached = reached_by run c.args.from walk.taken c.args.self.now.terms _ _ c.requires.place all
          (rw (inv.0) at c.end.ensures.sum
          ∙ summed_alone run.modulus run.generator run.index walk.taken _ (omega (arith, under, c.args.self.now.same)) at.summed)
          (rw (inv.1, inv.2, inv.3) at c.end.ensures.place);
    }
