use Rattle.std.proofs.Common.{◌≡◌, ℕ, ◌+◌, ◌-◌, ◌*◌, ◌/◌, ◌%◌, ◌^◌, ◌<◌, ◌≤◌, ◌≢◌, sym, ap, ◌∙◌, subst, arith, div-lt_iff_lt-mul, true-eqb, false-eqb}
use Rattle.theory.specs.Doubling.{order}
use Rattle.theory.specs.Pairs.{FitModulus}
use Rattle.run.proofs.Divisors.{Tried, tried_none, tried_more, tried_least, least_is_order, cofactor_of, cofactor_falls}
use Rattle.run.proofs.order.order_of_two.Goals as goal
use Rattle.run.proofs.order.order_of_two.Goals.{then-whole-d-eq0+else-leaves_one+then-leaves_one-2, then-whole-d-eq0+else-leaves_one+else-leaves_one-2, else-whole-d-eq0}

begun : (p m : ℕ) → m ≡ p → 5 ≤ p → 2 ^ (p - 1) % p ≡ 1 → Tried p (m - 1) 1 (m - 1)
begun p m same low leaves = tried_none p (m - 1) (omega arith) (ap (λ (n : ℕ). 2 ^ (n - 1) % p) same ∙ leaves)

-- d leaves 1 and nothing below it does
found : (p m d least : ℕ) → m ≡ p → FitModulus p → 2 ^ (p - 1) % p ≡ 1 → Tried p (m - 1) d least → 2 ^ d % p ≡ 1 → d ≡ order p
found p m d least same fit whole tried leaves =
    least_is_order p d fit.0 fit.1 whole tried.positive leaves
    (λ e positive below divides. tried.small e below positive (ap (λ (n : ℕ). (n - 1) % e) same ∙ divides))

ended : (p m d least : ℕ) → m ≡ p → FitModulus p → 2 ^ (p - 1) % p ≡ 1 → Tried p (m - 1) d least → (m - 1) / d < d → least ≡ order p
ended p m d least same fit whole tried past =
    least_is_order p least fit.0 fit.1 whole tried.some tried.leaves
    (λ e positive below divides.
    tried_least p (m - 1) d least (omega (arith, fit.1)) tried past e positive below (ap (λ (n : ℕ). (n - 1) % e) same ∙ divides))

skipped : (p whole d least : ℕ) → Tried p whole d least → whole % d ≢ 0 → Tried p whole (d + 1) least
skipped p whole d least tried other =
    tried_more p whole d least least tried (λ divides. absurd (other divides)) tried.some tried.leaves tried.large (λ divides. absurd (other divides))

neither : (p whole d least : ℕ) → Tried p whole d least → 2 ^ d % p ≢ 1 → 2 ^ (whole / d) % p ≢ 1 → Tried p whole (d + 1) least
neither p whole d least tried here cofactor =
    tried_more p whole d least least tried (λ _. here) tried.some tried.leaves tried.large (λ _ one. absurd (cofactor one))

-- the cofactor of d leaves 1: no cofactor before it is smaller
lower : (p whole d least : ℕ) → 0 < whole → Tried p whole d least → whole % d ≡ 0 → 2 ^ d % p ≢ 1 → 2 ^ (whole / d) % p ≡ 1 → Tried p whole (d + 1) (whole / d)
lower p whole d least some tried divides here one =
    tried_more p whole d least (whole / d) tried (λ _. here) (cofactor_of whole d some divides).positive one
    (λ e below positive _ _. cofactor_falls whole e d positive (omega arith)) (λ _ _. omega arith)

pub loop-d-init : goal.loop-d-init
loop-d-init g c =
    let a = c.args.arithmetic.now in
    begun (g.W.Arithmetic.modulus a) c.modulus-whole.result c.modulus-whole.ensures.value (g.met.W.Arithmetic.fit a).1 c.requires.whole

pub nonzero_div-whole : goal.nonzero_div-whole
nonzero_div-whole g c = c.loop-d.invariant.positive

pub nonzero_rem-whole : goal.nonzero_rem-whole
nonzero_rem-whole g c = c.loop-d.invariant.positive

pub returns-then-leaves_one : goal.returns-then-leaves_one
returns-then-leaves_one g c =
    let a = c.args.arithmetic.now in
    record {
      value = found (g.W.Arithmetic.modulus a) c.modulus-whole.result c.loop-d.d c.loop-d.least c.modulus-whole.ensures.value
          (g.met.W.Arithmetic.fit a) c.requires.whole c.loop-d.invariant (true-eqb _ 1 c.if-leaves_one.ensures.value);
    }

pub nonzero_div-least : goal.nonzero_div-least
nonzero_div-least g c = c.loop-d.invariant.positive

pub loop-d-preserved : goal.loop-d-preserved
loop-d-preserved g c =
    let a = c.args.arithmetic.now in
    let p = g.W.Arithmetic.modulus a in
    let whole = c.modulus-whole.result - 1 in
    let d = c.loop-d.d in
    let low = (g.met.W.Arithmetic.fit a).1 in
    elim c.if-whole-d-eq0.branch [
      | then-whole-d-eq0+else-leaves_one+then-leaves_one-2 w ↦
          subst (λ (n : ℕ). Tried p whole (d + 1) n) (sym w.least-is)
          (lower p whole d c.loop-d.least (omega (arith, c.modulus-whole.ensures.value, low)) c.loop-d.invariant w.if-whole-d-eq0.true
          (false-eqb _ 1 w.if-leaves_one.ensures.value) (true-eqb _ 1 w.if-leaves_one-2.ensures.value))
      | then-whole-d-eq0+else-leaves_one+else-leaves_one-2 w ↦
          subst (λ (n : ℕ). Tried p whole (d + 1) n) (sym w.least-is)
          (neither p whole d c.loop-d.least c.loop-d.invariant
          (false-eqb _ 1 w.if-leaves_one.ensures.value) (false-eqb _ 1 w.if-leaves_one-2.ensures.value))
      | else-whole-d-eq0 w ↦
          subst (λ (n : ℕ). Tried p whole (d + 1) n) (sym w.least-is) (skipped p whole d c.loop-d.least c.loop-d.invariant w.if-whole-d-eq0.false)
    ]

-- past the root: all divisors are tried
pub returns-then-whole-d : goal.returns-then-whole-d
returns-then-whole-d g c =
    let a = c.args.arithmetic.now in
    record {
      value = ended (g.W.Arithmetic.modulus a) c.modulus-whole.result c.loop-d.d c.loop-d.least c.modulus-whole.ensures.value
          (g.met.W.Arithmetic.fit a) c.requires.whole c.loop-d.invariant c.if-whole-d.true;
    }

-- some number is tried: p − 1 is no 0
pub returns : goal.returns
returns g c =
    let low = (g.met.W.Arithmetic.fit c.args.arithmetic.now).1 in
    let some : 0 < c.modulus-whole.result - 1 = omega (arith, c.modulus-whole.ensures.value, low) in
    absurd (omega (arith, c.loop-d-test.false, c.loop-d.auto.d-end some))

-- p − 1 itself is tried: the next number is past the root
pub returns-after-whole-d-eq0 : goal.returns-after-whole-d-eq0
returns-after-whole-d-eq0 g c =
    let a = c.args.arithmetic.now in
    let p = g.W.Arithmetic.modulus a in
    let whole = c.modulus-whole.result - 1 in
    let d = c.loop-d.d in
    let low = (g.met.W.Arithmetic.fit a).1 in
    let last : d ≡ whole = omega (arith, c.loop-d-test.true) in
    let past : whole < (d + 1) * (d + 1) = omega (arith, last) in
    let tried : Tried p whole (d + 1) c.if-whole-d-eq0.least =
    elim c.if-whole-d-eq0.branch [
      | then-whole-d-eq0+else-leaves_one+then-leaves_one-2 w ↦
          subst (λ (n : ℕ). Tried p whole (d + 1) n) (sym w.least-is)
          (lower p whole d c.loop-d.least (omega (arith, c.modulus-whole.ensures.value, low)) c.loop-d.invariant w.if-whole-d-eq0.true
          (false-eqb _ 1 w.if-leaves_one.ensures.value) (true-eqb _ 1 w.if-leaves_one-2.ensures.value))
      | then-whole-d-eq0+else-leaves_one+else-leaves_one-2 w ↦
          subst (λ (n : ℕ). Tried p whole (d + 1) n) (sym w.least-is)
          (neither p whole d c.loop-d.least c.loop-d.invariant
          (false-eqb _ 1 w.if-leaves_one.ensures.value) (false-eqb _ 1 w.if-leaves_one-2.ensures.value))
      | else-whole-d-eq0 w ↦
          subst (λ (n : ℕ). Tried p whole (d + 1) n) (sym w.least-is) (skipped p whole d c.loop-d.least c.loop-d.invariant w.if-whole-d-eq0.false)
    ] in
    record {
      value = ended p c.modulus-whole.result (d + 1) c.if-whole-d-eq0.least c.modulus-whole.ensures.value (g.met.W.Arithmetic.fit a) c.requires.whole tried
          ((div-lt_iff_lt-mul {k = d + 1} {x = whole} {y = d + 1} (omega arith)).1 past);
    }
