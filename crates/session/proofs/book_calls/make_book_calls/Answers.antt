use Rattle.std.proofs.Common.{◌≡◌, List, [], ◌∷◌, ◌++◌, map, vec_items, sym, refl, ap, ◌∙◌, subst, append_assoc, append-nil, arith}
use Rattle.std.specs.Vec.Iter.{into_iter_items}
use Rattle.book.specs.Books.{book}
use Rattle.session.specs.declared.answer.Answer.{Answer}
use Rattle.session.specs.declared.call.BookCall.{BookCall}
use Rattle.session.specs.Deeds.{book_deed}
use Rattle.session.specs.Events.{Deed}
use Rattle.session.specs.Sessions.{Goes, Went}
use Rattle.std.proofs.lemmas.List.{map_push}
use Rattle.session.proofs.Going.{went_none, went_more, nothing_left, answered}
use Rattle.session.proofs.book_calls.make_book_calls.Goals as goal

pub loop-call-init : goal.loop-call-init
loop-call-init g c =
    let s = c.args.state.now in
    let becomes = c.into_iter-call-iterator.ensures.into_iter_gives in
    (tt, tt, refl, went_none (book s.book) (vec_items s.runs) (vec_items c.args.answers.now), omega (arith, becomes.1, c.requires.room), omega (arith, becomes.1, c.requires.runs))

pub make-requires : goal.make-requires
make-requires g c = let inv = c.loop-call.invariant in record { room = omega (arith, inv.5, c.in-Some.ensures.steps.1) }

pub push_reserved-requires : goal.push_reserved-requires
push_reserved-requires g c = let inv = c.loop-call.invariant in omega (arith, inv.4, c.in-Some.ensures.steps.1)

pub loop-call-preserved : goal.loop-call-preserved
loop-call-preserved g c =
    let inv = c.loop-call.invariant in
    let steps = c.in-Some.ensures.steps in
    let turn = c.make.ensures.turn in
    let deed : BookCall g.row.W.Denot g.row.D.Denot → Deed = book_deed g.W.Arithmetic.modulus g.D.DigitSource.modulus in
    let goes = subst (λ (a : Answer). Goes (book c.loop-call.state.book) (vec_items c.loop-call.state.runs) (book c.make.new.self.book) (vec_items c.make.new.self.runs) (deed c.in-Some.call) a)
    (sym (answered c.make.result c.unwrap_or_else.result c.unwrap_or_else.ensures)) turn.goes
    in
    let came = c.loop-call.yielded in
    let call = c.in-Some.call in
    let rest = into_iter_items c.next.new.self in
    let s = c.args.state.now in
    let before = vec_items c.args.answers.now in
    let after = vec_items c.push_reserved.new.self in (
      tt,
      tt,
      inv.2 ∙ ap (λ (l : List (BookCall g.row.W.Denot g.row.D.Denot)). came ++ l) steps.0 ∙ sym (append_assoc came (call ∷ []) rest),
      subst (λ (ds : List Deed). Went (book s.book) (vec_items s.runs) (book c.make.new.self.book) (vec_items c.make.new.self.runs) ds before after)
          (sym (map_push deed came call))
          (went_more (book s.book) (book c.loop-call.state.book) (book c.make.new.self.book) (vec_items s.runs) (vec_items c.loop-call.state.runs)
          (vec_items c.make.new.self.runs) (map deed came) (deed call) c.unwrap_or_else.result before (vec_items c.loop-call.answers) after inv.3 goes
          c.push_reserved.ensures.items),
      omega (arith, c.push_reserved.ensures.len, c.push_reserved.ensures.capacity, inv.4, steps.1),
      omega (arith, turn.few, turn.capacity, inv.5, steps.1),
    )

pub returns : goal.returns
returns g c =
    let inv = c.loop-call.invariant in
    let steps = c.in-None.ensures.steps in
    let s = c.args.state.now in
    let Calls : Type 0 = List (BookCall g.row.W.Denot g.row.D.Denot) in
    let deed : BookCall g.row.W.Denot g.row.D.Denot → Deed = book_deed g.W.Arithmetic.modulus g.D.DigitSource.modulus in
    let rest : Calls = into_iter_items c.loop-call.call-iterator in
    let none : rest ≡ [] = nothing_left rest (omega (arith, steps.0, c.loop-call.call-iterator.rest.ok.0)) in
    let all : c.loop-call.yielded ≡ vec_items c.args.calls =
    sym (append-nil c.loop-call.yielded) ∙ ap (λ (l : Calls). c.loop-call.yielded ++ l) (sym none) ∙ sym inv.2 ∙ c.into_iter-call-iterator.ensures.into_iter_gives.0
    in
    record {
      went = subst (λ (l : Calls). Went (book s.book) (vec_items s.runs) (book c.loop-call.state.book) (vec_items c.loop-call.state.runs) (map deed l) (vec_items c.args.answers.now) (vec_items c.loop-call.answers)) all inv.3;
    }
