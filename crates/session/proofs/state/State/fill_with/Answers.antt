use Rattle.std.proofs.Common.{vec_items, sym, refl, subst, arith}
use Rattle.book.specs.Books.{book}
use Rattle.session.specs.declared.answer.Answer.TheVariants.{Filled}
use Rattle.session.specs.declared.answer.Outcome.{Outcome}
use Rattle.session.specs.Events.{FillWith}
use Rattle.session.specs.Sessions.{Goes, outcome_of}
use Rattle.session.proofs.BookSteps.{goes_filled_with, goes_unfilled_with}
use Rattle.session.proofs.state.State.fill_with.Goals as goal

pub returns-in-Ok : goal.returns-in-Ok
returns-in-Ok c =
    let s = c.args.self.now in
    let t = book s.book in
    let t' = book c.fill.new.self in
    let runs = vec_items s.runs in
    record {
      turn = record {
        goes = subst (λ (o : Outcome). Goes t runs t' runs (FillWith (outcome_of c.args.finished)) (Filled o)) (sym c.from-filled.ensures)
            (goes_filled_with t runs c.args.finished t' c.in-Ok.field-0 c.in-Ok.ensures.filled);
        capacity = refl;
        few = omega arith;
      };
    }

pub returns-in-Err : goal.returns-in-Err
returns-in-Err c =
    let s = c.args.self.now in
    record {
      turn = record {
        goes = goes_unfilled_with (book s.book) (vec_items s.runs) (Unit {0}) c.args.finished (book c.fill.new.self) (c.in-Err.refusal, c.in-Err.field-0-1) c.in-Err.ensures.filled;
        capacity = refl;
        few = omega arith;
      };
    }
