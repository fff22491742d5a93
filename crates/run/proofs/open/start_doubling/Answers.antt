use Rattle.std.proofs.Common.{ℕ, ◌-◌, ◌%◌, ◌^◌, sym, ap, ◌∙◌, true-eqb, false-eqb}
use Rattle.run.proofs.Opening.{rows_refused, index_refused, doubling_started}
use Rattle.run.proofs.open.start_doubling.Goals as goal

pub returns-then-not-leaves_one : goal.returns-then-not-leaves_one
returns-then-not-leaves_one g c =
    let a = c.args.arithmetic.now in
    let p = g.W.Arithmetic.modulus a in
    record {
      started = rows_refused p c.args.index (g.met.W.Arithmetic.fit a)
          (λ one. false-eqb _ 1 c.if-not-leaves_one.ensures.value (ap (λ (n : ℕ). 2 ^ (n - 1) % p) c.modulus.ensures.value ∙ one));
    }

pub returns-then-leaves_one : goal.returns-then-leaves_one
returns-then-leaves_one g c =
    record { started = index_refused (g.W.Arithmetic.modulus c.args.arithmetic.now) c.args.index (true-eqb _ 1 c.if-leaves_one.ensures.value) }

pub returns : goal.returns
returns g c =
    let a = c.args.arithmetic.now in
    let p = g.W.Arithmetic.modulus a in
    record {
      started = doubling_started c.row_length.result c.args.index p c.row_length.ensures.value (g.met.W.Arithmetic.fit a)
          (ap (λ (n : ℕ). 2 ^ (n - 1) % p) (sym c.modulus.ensures.value) ∙ true-eqb _ 1 c.if-not-leaves_one.ensures.value)
          (false-eqb _ 1 c.if-leaves_one.ensures.value);
    }
