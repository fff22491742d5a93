use Rattle.std.proofs.Common.{vec_items, refl, ◌∙◌, arith}
use Rattle.std.proofs.lemmas.Result.{err_from_is_err_and}
use Rattle.book.specs.Books.{book}
use Rattle.session.proofs.BookSteps.{goes_opened, goes_unopenable}
use Rattle.session.proofs.state.State.open_run.Goals as goal

pub returns-in_err-opened : goal.returns-in_err-opened
returns-in_err-opened c =
    let s = c.args.self.now in
    let p = err_from_is_err_and c.from_residual.result c.from_residual.ensures.1 in
    rw (p.1, p.2)
    (record {
      turn = record {
        goes = goes_unopenable (book s.book) (vec_items s.runs) c.args.kind c.args.modulus c.in_err-opened.field-0.0 c.in_err-opened.ensures.opened;
        capacity = refl;
        few = omega arith;
      };
    })

pub returns : goal.returns
returns c =
    let s = c.args.self.now in
    record {
      turn = record {
        goes = goes_opened (book s.book) (vec_items s.runs) c.args.kind c.args.modulus c.in_ok-opened.opened (vec_items c.push_reserved.new.self) c.len-run.result
            c.push_reserved.ensures.items (c.len-run.ensures ∙ s.runs.ok.0) c.in_ok-opened.ensures.opened;
        capacity = c.push_reserved.ensures.capacity;
        few = omega (arith, c.push_reserved.ensures.len);
      };
    }
