use Rattle.std.proofs.Common.{vec_items, refl, arith}
use Rattle.book.specs.Books.{book}
use Rattle.session.specs.declared.slot.Slot.TheVariants.{Open}
use Rattle.session.specs.Events.{Finish}
use Rattle.session.proofs.RunSteps.{goes_finished, goes_unfinished, goes_unopened}
use Rattle.session.proofs.Taking.{open_taken, none_open, found_within}
use Rattle.session.proofs.state.State.finish.Goals as goal

pub returns-in_default : goal.returns-in_default
returns-in_default g c =
    let s = c.args.self.now in
    let n = c.args.number in
    let none = none_open (vec_items s.runs) (vec_items c.take.new.runs) n c.in_default.ensures.taken in
    record {
      turn = record {
        goes = goes_unopened (book s.book) (vec_items s.runs) n (Finish n (g.W.Arithmetic.modulus c.args.arithmetic.now))
            (vec_items c.take.new.runs) none.0 (λ h. refl) none.1;
        capacity = c.take.ensures.capacity;
        few = omega (arith, c.take.ensures.len);
      };
    }

pub index_mut-requires : goal.index_mut-requires
index_mut-requires g c =
    let s = c.args.self.now in
    let taken = open_taken (vec_items s.runs) (vec_items c.take.new.runs) c.args.number c.in-Some.run' c.in-Some.ensures.taken in
    omega (arith, found_within (vec_items s.runs) c.args.number (Open c.in-Some.run') taken.0, c.take.ensures.len, s.runs.ok.0)

pub index_mut-requires-in-Err : goal.index_mut-requires-in-Err
index_mut-requires-in-Err g c =
    let s = c.args.self.now in
    let taken = open_taken (vec_items s.runs) (vec_items c.take.new.runs) c.args.number c.in-Some.run' c.in-Some.ensures.taken in
    omega (arith, found_within (vec_items s.runs) c.args.number (Open c.in-Some.run') taken.0, c.take.ensures.len, s.runs.ok.0)

pub returns-in-Ok : goal.returns-in-Ok
returns-in-Ok g c =
    let s = c.args.self.now in
    let taken = open_taken (vec_items s.runs) (vec_items c.take.new.runs) c.args.number c.in-Some.run' c.in-Some.ensures.taken in
    record {
      turn = record {
        goes = goes_finished (book s.book) (vec_items s.runs) c.args.number c.in-Some.run' taken.0 (g.W.Arithmetic.modulus c.args.arithmetic.now)
            c.in-Ok.finished (vec_items c.take.new.runs) _ c.from-outcome.result taken.1 refl
            c.from-outcome.ensures c.in-Ok.ensures.finished;
        capacity = c.take.ensures.capacity;
        few = omega (arith, c.take.ensures.len);
      };
    }

pub returns-in-Err : goal.returns-in-Err
returns-in-Err g c =
    let s = c.args.self.now in
    let taken = open_taken (vec_items s.runs) (vec_items c.take.new.runs) c.args.number c.in-Some.run' c.in-Some.ensures.taken in
    record {
      turn = record {
        goes = goes_unfinished (book s.book) (vec_items s.runs) c.args.number c.in-Some.run' taken.0 (g.W.Arithmetic.modulus c.args.arithmetic.now)
            (c.in-Err.refusal, c.in-Err.run') (vec_items c.take.new.runs) _ taken.1 refl c.in-Err.ensures.finished;
        capacity = c.take.ensures.capacity;
        few = omega (arith, c.take.ensures.len);
      };
    }
