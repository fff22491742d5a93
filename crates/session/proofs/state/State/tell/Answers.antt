use Rattle.std.proofs.Common.{ℕ, vec_items, sym, refl, ap, ◌∙◌, arith}
use Rattle.run.specs.Calls.{left_of}
use Rattle.book.specs.Books.{book}
use Rattle.session.specs.declared.answer.Answer.TheVariants.{Told}
use Rattle.session.specs.declared.slot.Slot.TheVariants.{Open}
use Rattle.session.specs.Events.{Tell}
use Rattle.session.specs.Made.{open_at}
use Rattle.session.proofs.RunSteps.{goes_told, goes_unopened}
use Rattle.session.proofs.Taking.{past_place, shut_at, taken_is}
use Rattle.session.proofs.state.State.tell.Goals as goal

pub returns-then-number-len : goal.returns-then-number-len
returns-then-number-len c =
    let s = c.args.self.now in
    let xs = vec_items s.runs in
    let n = c.args.number in
    record {
      turn = record {
        goes = goes_unopened (book s.book) xs n (Tell n) xs (ap open_at (past_place xs n (omega (arith, c.if-number-len.true, c.len.ensures, s.runs.ok.0)))) (λ h. refl) refl;
        capacity = refl;
        few = omega arith;
      };
    }

pub returns-in_default : goal.returns-in_default
returns-in_default c =
    let s = c.args.self.now in
    let xs = vec_items s.runs in
    let n = c.args.number in
    record {
      turn = record {
        goes = goes_unopened (book s.book) xs n (Tell n) xs
            (shut_at xs n c.index.result.now (omega (arith, c.if-number-len.false, c.len.ensures, s.runs.ok.0)) c.index.ensures c.in_default.not-Open) (λ h. refl) refl;
        capacity = refl;
        few = omega arith;
      };
    }

pub returns : goal.returns
returns c =
    let s = c.args.self.now in
    let xs = vec_items s.runs in
    let n = c.args.number in
    let run = c.in-Open.run' in
    let here = taken_is xs n c.index.result.now (Open run) (omega (arith, c.if-number-len.false, c.len.ensures, s.runs.ok.0)) c.index.ensures (sym c.in-Open.is) in
    record {
      turn = record {
        goes = goes_told (book s.book) xs n run here
            (Told c.taken.result c.left.result c.partial_sum.result)
            (ap (λ (x : ℕ). Told x c.left.result c.partial_sum.result) c.taken.ensures.value
            ∙ ap (λ (x : ℕ). Told run.taken x c.partial_sum.result) c.left.ensures.value
            ∙ ap (λ (x : ℕ). Told run.taken (left_of run) x) c.partial_sum.ensures.value);
        capacity = refl;
        few = omega arith;
      };
    }
