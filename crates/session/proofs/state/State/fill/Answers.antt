use Rattle.std.proofs.Common.{vec_items, refl, arith}
use Rattle.book.specs.Books.{book}
use Rattle.session.specs.declared.slot.Slot.TheVariants.{Finished}
use Rattle.session.proofs.BookSteps.{goes_filled, goes_unfilled, goes_spent}
use Rattle.session.proofs.Taking.{finished_taken, none_finished, found_within}
use Rattle.session.proofs.state.State.fill.Goals as goal

pub returns-in_default : goal.returns-in_default
returns-in_default c =
    let s = c.args.self.now in
    let none = none_finished (vec_items s.runs) (vec_items c.take.new.runs) c.args.number c.in_default.ensures.taken in
    record {
      turn = record {
        goes = goes_spent (book s.book) (vec_items s.runs) c.args.number (vec_items c.take.new.runs) none.0 none.1;
        capacity = c.take.ensures.capacity;
        few = omega (arith, c.take.ensures.len);
      };
    }

pub index_mut-requires : goal.index_mut-requires
index_mut-requires c =
    let s = c.args.self.now in
    let taken = finished_taken (vec_items s.runs) (vec_items c.take.new.runs) c.args.number c.in-Some.finished c.in-Some.ensures.taken in
    omega (arith, found_within (vec_items s.runs) c.args.number (Finished c.in-Some.finished) taken.0, c.take.ensures.len, s.runs.ok.0)

pub returns-in-Ok : goal.returns-in-Ok
returns-in-Ok c =
    let s = c.args.self.now in
    let taken = finished_taken (vec_items s.runs) (vec_items c.take.new.runs) c.args.number c.in-Some.finished c.in-Some.ensures.taken in
    record {
      turn = record {
        goes = goes_filled (book s.book) (vec_items s.runs) c.args.number c.in-Some.finished taken.0 (book c.fill.new.self) c.in-Ok.field-0
            (vec_items c.take.new.runs) c.from-filled.result taken.1 c.from-filled.ensures c.in-Ok.ensures.filled;
        capacity = c.take.ensures.capacity;
        few = omega (arith, c.take.ensures.len);
      };
    }

pub returns-in-Err : goal.returns-in-Err
returns-in-Err c =
    let s = c.args.self.now in
    let taken = finished_taken (vec_items s.runs) (vec_items c.take.new.runs) c.args.number c.in-Some.finished c.in-Some.ensures.taken in
    record {
      turn = record {
        goes = goes_unfilled (book s.book) (vec_items s.runs) c.args.number c.in-Some.finished taken.0 (Unit {0}) (book c.fill.new.self) (c.in-Err.refusal, c.in-Err.finished)
            (vec_items c.take.new.runs) _ taken.1 refl c.in-Err.ensures.filled;
        capacity = c.take.ensures.capacity;
        few = omega (arith, c.take.ensures.len);
      };
    }
