use Rattle.std.proofs.Common.{◌≡◌, ℕ, ◌+◌, ◌-◌, ◌*◌, ◌%◌, ◌<◌, ap, ◌∙◌, arith}
use Rattle.theory.specs.Residues.{minus}
use Rattle.run.proofs.StretchTerms.{along_none, along_low, along_high, along_under, along_as}
use Rattle.run.proofs.stretch.take_stretch.Goals as goal
use Rattle.run.proofs.stretch.take_stretch.Goals.{then-double-p, else-double-p}

pub loop-i-init : goal.loop-i-init
loop-i-init g c =
    let w = g.W.Arithmetic in
    let a = c.args.arithmetic.now in
    along_none (w.modulus a) (w.residue a c.args.ratio) (w.residue a c.args.from.sum) c.args.from.point (w.residue a c.args.from.weight)
    (g.met.W.Arithmetic.under a c.args.from.sum) c.requires.below (g.met.W.Arithmetic.under a c.args.from.weight)

pub overflow_mul-double : goal.overflow_mul-double
overflow_mul-double g c =
    let a = c.args.arithmetic.now in
    let fit = g.met.W.Arithmetic.fit a in
    let positive : 0 < g.W.Arithmetic.modulus a = omega (arith, fit.1) in
    omega (arith, along_under _ _ _ _ _ _ _ _ _ positive c.loop-i.invariant, fit.2)

pub loop-i-preserved : goal.loop-i-preserved
loop-i-preserved g c =
    let w = g.W.Arithmetic in
    let a = c.args.arithmetic.now in
    let m = w.modulus a in
    let r = w.residue a c.args.ratio in
    let s₀ = w.residue a c.args.from.sum in
    let x₀ = c.args.from.point in
    let v₀ = w.residue a c.args.from.weight in
    let n = c.loop-i._i in
    let s = w.residue a c.loop-i.sum in
    let x = c.loop-i.point in
    let v = w.residue a c.loop-i.weight in
    let modulus = c.modulus-p.ensures.value in
    let positive : 0 < m = omega (arith, (g.met.W.Arithmetic.fit a).1) in
    elim c.if-double-p.branch [
      | then-double-p way ↦
          along_as m r s₀ x₀ v₀ (n + 1) ((s + v) % m) (2 * x) (v * r % m) _ _ _
          (ap (λ (e : g.row.W-Element.Denot). w.residue a e) way.sum-is ∙ c.add-plus.ensures.value) way.point-is c.mul-weight.ensures.value
          (along_low m r s₀ x₀ v₀ n s x v c.loop-i.invariant (omega (arith, way.if-double-p.true, modulus)))
      | else-double-p way ↦
          along_as m r s₀ x₀ v₀ (n + 1) (minus m s v) (2 * x - m) (v * r % m) _ _ _
          (ap (λ (e : g.row.W-Element.Denot). w.residue a e) way.sum-is ∙ c.sub-minus.ensures.value) (way.point-is ∙ ap (λ (k : ℕ). 2 * x - k) modulus) c.mul-weight.ensures.value
          (along_high m r s₀ x₀ v₀ n s x v c.loop-i.invariant (along_under m r s₀ x₀ v₀ n s x v positive c.loop-i.invariant) (omega (arith, way.if-double-p.false, modulus)))
    ]

pub returns : goal.returns
returns g c =
    let w = g.W.Arithmetic in
    let a = c.args.arithmetic.now in
    let all : c.loop-i._i ≡ c.args.terms = omega (arith, c.loop-i-test.false, c.loop-i.auto._i-end) in
    let along = rw all at c.loop-i.invariant in
    record { sum = along.sum_is; point = along.point_is; weight = along.weight_is }
