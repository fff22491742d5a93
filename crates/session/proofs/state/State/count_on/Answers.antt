use Rattle.std.proofs.Common.{length, set, Ok, Err, vec_items, sym, refl, ap, arith}
use Rattle.std.proofs.lemmas.Result.{err_from_is_err_and}
use Rattle.run.specs.CountingOn.{count_causes}
use Rattle.run.specs.Places.{kind_of}
use Rattle.book.specs.Books.{book}
use Rattle.session.specs.declared.slot.Slot.TheVariants.{Open}
use Rattle.session.specs.Events.{CountOn}
use Rattle.session.specs.Made.{open_at}
use Rattle.session.proofs.RunSteps.{goes_taken, goes_unopened}
use Rattle.session.proofs.Steps.{count_causes_are}
use Rattle.session.proofs.Taking.{past_place, shut_at, stays, taken_is}
use Rattle.session.proofs.state.State.count_on.Goals as goal

pub returns-then-number-len : goal.returns-then-number-len
returns-then-number-len g c =
    let s = c.args.self.now in
    let xs = vec_items s.runs in
    let n = c.args.number in
    record {
      turn = record {
        goes = goes_unopened (book s.book) xs n (CountOn n (length c.args.cells.now) (g.W.Arithmetic.modulus c.args.arithmetic.now) (g.D.DigitSource.modulus c.args.source.now) c.args.terms) xs
            (ap open_at (past_place xs n (omega (arith, c.if-number-len.true, c.len.ensures, s.runs.ok.0)))) (λ h. refl) refl;
        capacity = refl;
        few = omega arith;
      };
    }

pub returns-in_default : goal.returns-in_default
returns-in_default g c =
    let s = c.args.self.now in
    let xs = vec_items s.runs in
    let n = c.args.number in
    let y = c.index_mut.result.now in
    record {
      turn = record {
        goes = goes_unopened (book s.book) xs n (CountOn n (length c.args.cells.now) (g.W.Arithmetic.modulus c.args.arithmetic.now) (g.D.DigitSource.modulus c.args.source.now) c.args.terms) (set xs n y)
            (shut_at xs n y (omega (arith, c.if-number-len.false, c.len.ensures, s.runs.ok.0)) c.index_mut.ensures.value c.in_default.not-Open) (λ h. refl)
            (stays xs n y c.index_mut.ensures.value);
        capacity = refl;
        few = omega arith;
      };
    }

pub returns-in_err-terms : goal.returns-in_err-terms
returns-in_err-terms g c =
    let s = c.args.self.now in
    let xs = vec_items s.runs in
    let n = c.args.number in
    let run = c.in-Open.run' in
    let here = taken_is xs n c.index_mut.result.now (Open run) (omega (arith, c.if-number-len.false, c.len.ensures, s.runs.ok.0)) c.index_mut.ensures.value (sym c.in-Open.is) in
    let p = err_from_is_err_and c.from_residual.result c.from_residual.ensures.1 in
    rw (p.1, p.2)
    (record {
      turn = record {
        goes = goes_taken (book s.book) xs n run here (CountOn n (length c.args.cells.now) (g.W.Arithmetic.modulus c.args.arithmetic.now) (g.D.DigitSource.modulus c.args.source.now) c.args.terms) c.args.terms
            (count_causes run (length c.args.cells.now) (g.W.Arithmetic.modulus c.args.arithmetic.now) (g.D.DigitSource.modulus c.args.source.now) c.args.terms)
            (λ q. refl) (λ h. refl)
            (λ h at. count_causes_are h n (kind_of run.progress) run.index run.modulus run.generator run.taken at (length c.args.cells.now) (g.W.Arithmetic.modulus c.args.arithmetic.now) (g.D.DigitSource.modulus c.args.source.now) c.args.terms)
            (λ h a e. e)
            c.count_on.new.self (Err c.in_err-terms.field-0.0) (set xs n (Open c.count_on.new.self)) refl c.in_err-terms.ensures.shared;
        capacity = refl;
        few = omega arith;
      };
    })

pub returns : goal.returns
returns g c =
    let s = c.args.self.now in
    let xs = vec_items s.runs in
    let n = c.args.number in
    let run = c.in-Open.run' in
    let here = taken_is xs n c.index_mut.result.now (Open run) (omega (arith, c.if-number-len.false, c.len.ensures, s.runs.ok.0)) c.index_mut.ensures.value (sym c.in-Open.is) in
    record {
      turn = record {
        goes = goes_taken (book s.book) xs n run here (CountOn n (length c.args.cells.now) (g.W.Arithmetic.modulus c.args.arithmetic.now) (g.D.DigitSource.modulus c.args.source.now) c.args.terms) c.args.terms
            (count_causes run (length c.args.cells.now) (g.W.Arithmetic.modulus c.args.arithmetic.now) (g.D.DigitSource.modulus c.args.source.now) c.args.terms)
            (λ q. refl) (λ h. refl)
            (λ h at. count_causes_are h n (kind_of run.progress) run.index run.modulus run.generator run.taken at (length c.args.cells.now) (g.W.Arithmetic.modulus c.args.arithmetic.now) (g.D.DigitSource.modulus c.args.source.now) c.args.terms)
            (λ h a e. e)
            c.count_on.new.self (Ok c.in_ok-terms.terms) (set xs n (Open c.count_on.new.self)) refl c.in_ok-terms.ensures.shared;
        capacity = refl;
        few = omega arith;
      };
    }
