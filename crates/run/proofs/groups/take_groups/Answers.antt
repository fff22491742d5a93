use Rattle.std.proofs.Common.{rules, ◌≡◌, ℕ, ◌+◌, ◌*◌, ◌%◌, ◌<◌, sym, refl, ap, ◌∙◌, subst, arith}
use Rattle.run.proofs.GroupTerms.{Gathering, gathering_none, gathering_more, deposit_asks, every_other}
use Rattle.run.proofs.groups.take_groups.Goals as goal

-- a product in a modulus m that is p
product_by : (m p a b x : ℕ) → m ≡ p → x ≡ a * b % m → x ≡ a * b % p
product_by m p a b x same worked = worked ∙ ap (λ (n : ℕ). a * b % n) same

pub loop-i-init : goal.loop-i-init
loop-i-init g c =
    let rows = c.args.rows.now in
    let a = rows.arithmetic.now in
    let residue = g.W.Arithmetic.residue a in
    let d = g.S.DigitSource in
    let under = g.met.W.Arithmetic.under a c.args.from.weight in (
      gathering_none rows.modulus (residue rows.ratio) c.args.from.point (residue c.args.from.weight) c.args.cells.now
          (d.modulus c.args.source.now) (d.taken c.args.source.now) (omega (arith, rows.fit.0.1)) c.requires.below
          (omega (arith, under, rows.same)) (search rules) c.requires.same (g.met.S.DigitSource.bounded c.args.source.now),
      product_by _ rows.modulus _ _ _ rows.same c.mul-odd.ensures.value,
    )

pub deposit-point-requires : goal.deposit-point-requires
deposit-point-requires g c =
    let rows = c.args.rows.now in
    let at = c.loop-i.invariant.0 in
    let under = g.met.W.Arithmetic.under rows.arithmetic.now c.loop-i.even in
    let asks = deposit_asks rows.modulus _ (2 * c.loop-i._i) _ _ c.loop-i.point _ c.args.groups c.take_out.result c.args.cells.now c.loop-i.cells _ _ _
    (omega (arith, rows.fit.0.1)) at (omega (arith, c.loop-i-test.true)) (omega (arith, c.take_out.ensures.value, under, rows.same)) c.requires.room in
    record { below = asks.0; room = asks.1 }

pub deposit-point-requires-in-loop-i : goal.deposit-point-requires-in-loop-i
deposit-point-requires-in-loop-i g c =
    let rows = c.args.rows.now in
    let a = rows.arithmetic.now in
    let residue = g.W.Arithmetic.residue a in
    let d = g.S.DigitSource in
    let p = rows.modulus in
    let positive : 0 < p = omega (arith, rows.fit.0.1) in
    let put = c.deposit-point.ensures in
    let even-under = g.met.W.Arithmetic.under a c.loop-i.even in
    let at = gathering_more p (residue rows.ratio) (2 * c.loop-i._i) c.args.from.point (residue c.args.from.weight) c.loop-i.point (residue c.loop-i.even)
    c.take_out.result (residue rows.eighth) c.deposit-point.result (residue c.loop-i.odd) c.args.cells.now c.loop-i.cells c.deposit-point.new.cells
    (d.modulus c.loop-i.source) (d.modulus c.deposit-point.new.source) (d.taken c.args.source.now) (d.taken c.loop-i.source) (d.taken c.deposit-point.new.source)
    positive c.loop-i.invariant.0 c.take_out.ensures.value (omega (arith, even-under, rows.same)) rows.eighth_is c.loop-i.invariant.1
    put.point put.cells put.source.0 put.source.1 in
    let under = g.met.W.Arithmetic.under a c.loop-i.odd in
    let asks = deposit_asks p _ (2 * c.loop-i._i + 1) _ _ c.deposit-point.result _ c.args.groups c.take_out-in-loop-i.result c.args.cells.now c.deposit-point.new.cells _ _ _
    positive at (omega (arith, c.loop-i-test.true)) (omega (arith, c.take_out-in-loop-i.ensures.value, under, rows.same)) c.requires.room in
    record { below = asks.0; room = asks.1 }

pub loop-i-preserved : goal.loop-i-preserved
loop-i-preserved g c =
    let rows = c.args.rows.now in
    let a = rows.arithmetic.now in
    let residue = g.W.Arithmetic.residue a in
    let d = g.S.DigitSource in
    let p = rows.modulus in
    let r = residue rows.ratio in
    let s = residue rows.eighth in
    let x = c.args.from.point in
    let v = residue c.args.from.weight in
    let even = residue c.loop-i.even in
    let odd = residue c.loop-i.odd in
    let even' = residue c.mul-even.result in
    let positive : 0 < p = omega (arith, rows.fit.0.1) in
    let even-under = g.met.W.Arithmetic.under a c.loop-i.even in
    let odd-under = g.met.W.Arithmetic.under a c.loop-i.odd in
    let put = c.deposit-point.ensures in
    let put' = c.deposit-point-in-loop-i.ensures in
    let ahead : even' ≡ odd * s % p =
    every_other p even s (residue rows.sixteenth) odd even' c.loop-i.invariant.1 rows.sixteenth_is (product_by _ p _ _ _ rows.same c.mul-even.ensures.value) in
    let at = gathering_more p r (2 * c.loop-i._i) x v c.loop-i.point even
    c.take_out.result s c.deposit-point.result odd c.args.cells.now c.loop-i.cells c.deposit-point.new.cells
    (d.modulus c.loop-i.source) (d.modulus c.deposit-point.new.source) (d.taken c.args.source.now) (d.taken c.loop-i.source) (d.taken c.deposit-point.new.source)
    positive c.loop-i.invariant.0 c.take_out.ensures.value (omega (arith, even-under, rows.same)) rows.eighth_is c.loop-i.invariant.1
    put.point put.cells put.source.0 put.source.1 in
    let further = gathering_more p r (2 * c.loop-i._i + 1) x v c.deposit-point.result odd
    c.take_out-in-loop-i.result s c.deposit-point-in-loop-i.result even' c.args.cells.now c.deposit-point.new.cells c.deposit-point-in-loop-i.new.cells
    (d.modulus c.deposit-point.new.source) (d.modulus c.deposit-point-in-loop-i.new.source) (d.taken c.args.source.now) (d.taken c.deposit-point.new.source) (d.taken c.deposit-point-in-loop-i.new.source)
    positive at c.take_out-in-loop-i.ensures.value (omega (arith, odd-under, rows.same)) rows.eighth_is ahead
    put'.point put'.cells put'.source.0 put'.source.1 in
    let twice : 2 * c.loop-i._i + 1 + 1 ≡ 2 * (c.loop-i._i + 1) = omega arith in (
      subst (λ (n : ℕ). Gathering p r n x v c.deposit-point-in-loop-i.result even' c.args.cells.now c.deposit-point-in-loop-i.new.cells (d.modulus c.deposit-point-in-loop-i.new.source) (d.taken c.args.source.now) (d.taken c.deposit-point-in-loop-i.new.source)) twice further,
      every_other p odd s (residue rows.sixteenth) even' (residue c.mul-odd-in-loop-i.result) ahead rows.sixteenth_is (product_by _ p _ _ _ rows.same c.mul-odd-in-loop-i.ensures.value),
    )

pub returns-then-groups-eq0 : goal.returns-then-groups-eq0
returns-then-groups-eq0 g c =
    let all : 2 * c.loop-i._i ≡ c.args.groups = omega (arith, c.loop-i-test.false, c.loop-i.auto._i-end, c.if-groups-eq0.true) in
    let at = rw all at c.loop-i.invariant.0 in
    record { counted = at.counted; room = at.room; sum = refl; source = (at.source_is ∙ sym c.requires.same, at.count_is) }

pub deposit-point-requires-2 : goal.deposit-point-requires-2
deposit-point-requires-2 g c =
    let rows = c.args.rows.now in
    let at = c.loop-i.invariant.0 in
    let under = g.met.W.Arithmetic.under rows.arithmetic.now c.loop-i.even in
    let asks = deposit_asks rows.modulus _ (2 * c.loop-i._i) _ _ c.loop-i.point _ c.args.groups c.take_out-2.result c.args.cells.now c.loop-i.cells _ _ _
    (omega (arith, rows.fit.0.1)) at (omega (arith, c.loop-i.auto._i-end, c.if-groups-eq0.false)) (omega (arith, c.take_out-2.ensures.value, under, rows.same)) c.requires.room in
    record { below = asks.0; room = asks.1 }

pub returns : goal.returns
returns g c =
    let rows = c.args.rows.now in
    let a = rows.arithmetic.now in
    let residue = g.W.Arithmetic.residue a in
    let d = g.S.DigitSource in
    let under = g.met.W.Arithmetic.under a c.loop-i.even in
    let put = c.deposit-point-2.ensures in
    let further = gathering_more rows.modulus (residue rows.ratio) (2 * c.loop-i._i) c.args.from.point (residue c.args.from.weight) c.loop-i.point (residue c.loop-i.even)
    c.take_out-2.result (residue rows.eighth) c.deposit-point-2.result (residue c.loop-i.odd) c.args.cells.now c.loop-i.cells c.deposit-point-2.new.cells
    (d.modulus c.loop-i.source) (d.modulus c.deposit-point-2.new.source) (d.taken c.args.source.now) (d.taken c.loop-i.source) (d.taken c.deposit-point-2.new.source)
    (omega (arith, rows.fit.0.1)) c.loop-i.invariant.0 c.take_out-2.ensures.value (omega (arith, under, rows.same)) rows.eighth_is c.loop-i.invariant.1
    put.point put.cells put.source.0 put.source.1 in
    let all : 2 * c.loop-i._i + 1 ≡ c.args.groups = omega (arith, c.loop-i-test.false, c.loop-i.auto._i-end, c.if-groups-eq0.false) in
    let at = rw all at further in
    record { counted = at.counted; room = at.room; sum = refl; source = (at.source_is ∙ sym c.requires.same, at.count_is) }
