use Rattle.std.proofs.Common.{◌≡◌, ◌+◌, List, [], ◌∷◌, ◌++◌, map, get_or, take, vec_items, sym, refl, ap, ◌∙◌, subst, arith}
use Rattle.std.proofs.lemmas.List.{take_more, take_all, map_push}
use Rattle.book.specs.Listings.{listing}
use Rattle.session.specs.declared.answer.Answer.{Answer}
use Rattle.session.specs.declared.call.ListingCall.{ListingCall}
use Rattle.session.specs.declared.call.ListingCall.TheVariants.{Begin}
use Rattle.session.specs.Deeds.{listing_deed}
use Rattle.session.specs.Events.{Deed}
use Rattle.session.specs.Sessions.{Goes, Went}
use Rattle.session.proofs.Going.{went_none, went_more, answered}
use Rattle.session.proofs.listing_calls.make_listing_calls.Goals as goal

pub loop-call-init : goal.loop-call-init
loop-call-init c = (went_none (listing c.args.on.now) [] (vec_items c.args.answers.now), omega arith, refl)

pub push_reserved-requires : goal.push_reserved-requires
push_reserved-requires c = omega (arith, c.loop-call.invariant.1, c.loop-call.invariant.2, c.requires.room)

pub loop-call-preserved : goal.loop-call-preserved
loop-call-preserved c =
    let i = c.loop-call.call-index in
    let calls = c.args.calls.now in
    let call = get_or calls i (Begin 0) in
    let deeds : map listing_deed (take i calls) ++ listing_deed call ∷ [] ≡ map listing_deed (take (i + 1) calls) =
    sym (map_push listing_deed (take i calls) call) ∙ ap (map listing_deed) (sym (take_more calls i (Begin 0) c.loop-call-test.true))
    in
    let t = listing c.args.on.now in
    let t' = listing c.make_listing_call.new.on in
    let goes : Goes (listing c.loop-call.on) [] t' [] (listing_deed call) c.unwrap_or_else.result =
    subst (λ (a : Answer). Goes (listing c.loop-call.on) [] t' [] (listing_deed call) a) (sym (answered c.make_listing_call.result c.unwrap_or_else.result c.unwrap_or_else.ensures)) c.make_listing_call.ensures.goes
    in
    let before = vec_items c.args.answers.now in
    let after = vec_items c.push_reserved.new.self in (
      subst (λ (ds : List Deed). Went t [] t' [] ds before after) deeds
          (went_more t (listing c.loop-call.on) t' [] [] [] (map listing_deed (take i calls)) (listing_deed call) c.unwrap_or_else.result before
          (vec_items c.loop-call.answers) after c.loop-call.invariant.0 goes c.push_reserved.ensures.items),
      omega (arith, c.push_reserved.ensures.len, c.loop-call.invariant.1),
      c.push_reserved.ensures.capacity ∙ c.loop-call.invariant.2,
    )

pub returns : goal.returns
returns c =
    let all = take_all c.loop-call.call-index c.args.calls.now c.loop-call-test.false in
    let t = listing c.args.on.now in
    record {
      went = subst (λ (xs : List ListingCall). Went t [] (listing c.loop-call.on) [] (map listing_deed xs) (vec_items c.args.answers.now) (vec_items c.loop-call.answers)) all c.loop-call.invariant.0;
      len = omega (arith, c.loop-call.invariant.1, c.loop-call.auto.call-index-end);
      capacity = c.loop-call.invariant.2;
    }
