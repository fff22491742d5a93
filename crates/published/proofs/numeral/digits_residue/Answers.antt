use Rattle.std.proofs.Common.{ℕ, ◌+◌, ◌*◌, ◌%◌, drop, sym, ap, ◌∙◌, mod-lt, mod-eq_of_lt, arith}
use Rattle.published.specs.Numerals.{spelled}
use Rattle.published.proofs.Spelling.{spelled_step, spelled_end}
use Rattle.published.proofs.numeral.digits_residue.Goals as goal

pub loop-digit-preserved : goal.loop-digit-preserved
loop-digit-preserved g c =
    let p = c.modulus-p.result in
    let ds = c.args.digits.now in
    let i = c.loop-digit.digit-index in
    let n = c.loop-digit.rest in (
      mod-lt (10 * n + c.saturating_sub.result) (omega (arith, c.loop-digit.invariant.0)),
      ap (λ (d : ℕ). spelled ((10 * n + d) % p) (drop (i + 1) ds) % p) c.saturating_sub.ensures
          ∙ spelled_step p n ds i c.loop-digit-test.true
          ∙ c.loop-digit.invariant.1,
    )

pub returns : goal.returns
returns g c =
    let p = c.modulus-p.result in
    let ds = c.args.digits.now in
    let n = c.loop-digit.rest in
    record {
      value =
          sym (mod-eq_of_lt c.loop-digit.invariant.0)
          ∙ ap (λ (m : ℕ). m % p) (sym (spelled_end n ds c.loop-digit.digit-index c.loop-digit-test.false))
          ∙ c.loop-digit.invariant.1
          ∙ ap (λ (m : ℕ). spelled 0 ds % m) c.modulus-p.ensures.value;
    }
