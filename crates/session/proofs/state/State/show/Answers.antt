use Rattle.std.proofs.Common.{vec_items, refl, arith}
use Rattle.std.proofs.lemmas.Result.{err_from_is_err_and}
use Rattle.book.specs.Books.{book}
use Rattle.session.proofs.BookSteps.{goes_shown, goes_unlisted}
use Rattle.session.proofs.state.State.show.Goals as goal

pub returns-in_err-show : goal.returns-in_err-show
returns-in_err-show c =
    let s = c.args.self.now in
    let p = err_from_is_err_and c.from_residual.result c.from_residual.ensures.1 in
    rw (p.1, p.2)
    (record {
      turn = record {
        goes = goes_unlisted (book s.book) (vec_items s.runs) c.args.modulus c.in_err-show.field-0.0 c.in_err-show.ensures.shown;
        capacity = refl;
        few = omega arith;
      };
    })

pub returns : goal.returns
returns c =
    let s = c.args.self.now in
    record {
      turn = record {
        goes = goes_shown (book s.book) (vec_items s.runs) c.args.modulus c.in_ok-show.field-0 c.in_ok-show.ensures.shown;
        capacity = refl;
        few = omega arith;
      };
    }
