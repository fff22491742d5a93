use Rattle.std.proofs.Common.{◌≡◌, ℕ, ◌*◌, ◌%◌, get_or, refl, ap, ◌∙◌, arith}
use Rattle.run.specs.Counting.{sign_sum, weighed}
use Rattle.run.proofs.Signs.{signs_none, cells_to, cell_more}
use Rattle.run.proofs.gather.gather.Goals as goal

pub loop-number-init : goal.loop-number-init
loop-number-init g c r powers =
    let m = g.W.Arithmetic.modulus c.args.arithmetic.now in
    signs_none m _ (λ i. get_or c.args.cells.now i 0 * sign_sum m r 8 i) c.bring_in-sum.ensures.value

pub loop-number-preserved : goal.loop-number-preserved
loop-number-preserved g c r powers =
    let w = g.W.Arithmetic in
    let a = c.args.arithmetic.now in
    let m = w.modulus a in
    let n = c.loop-number.number in
    cell_more m r 8 n (get_or c.args.cells.now n 0) (w.residue a c.loop-number.sum) (w.residue a c.bring_in-weight.result) (w.residue a c.sum_signs-signs.result)
    (w.residue a c.mul.result) _ c.args.cells.now refl (c.loop-number.invariant r powers)
    (c.bring_in-weight.ensures.value ∙ ap (λ (j : ℕ). get_or c.args.cells.now n 0 % j % m) c.modulus-p.ensures.value)
    (c.sum_signs-signs.ensures.value r powers) c.mul.ensures.value c.add-sum.ensures.value

pub returns : goal.returns
unfolding weighed
returns g c =
    let w = g.W.Arithmetic in
    let a = c.args.arithmetic.now in
    let m = w.modulus a in
    let r = w.residue a c.args.ratio in
    let all : c.loop-number.number ≡ 256 = omega (arith, c.loop-number-test.false, c.loop-number.auto.number-end) in
    record {
      value = c.loop-number.invariant r c.powers_of-powers.ensures.value ∙ ap (λ (n : ℕ). cells_to m r 8 c.args.cells.now n % m) all;
    }
