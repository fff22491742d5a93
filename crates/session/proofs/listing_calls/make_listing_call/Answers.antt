use Rattle.std.proofs.Common.{[], Ok, Err, sym, subst}
use Rattle.std.proofs.lemmas.Result.{err_from_is_err_and}
use Rattle.book.specs.Listings.{listing}
use Rattle.session.specs.declared.answer.Answer.TheVariants.{Done, Refused}
use Rattle.session.specs.declared.call.ListingCall.{ListingCall}
use Rattle.session.specs.Deeds.{listing_deed}
use Rattle.session.specs.Sessions.{Goes}
use Rattle.session.proofs.ListingSteps.{goes_begun, goes_entered}
use Rattle.session.proofs.listing_calls.make_listing_call.Goals as goal

pub returns-in_err-begin-in-Begin : goal.returns-in_err-begin-in-Begin
returns-in_err-begin-in-Begin c =
    let t = listing c.args.on.now in
    let t' = listing c.begin.new.self in
    let e = c.in_err-begin-in-Begin.field-0.0 in
    let p = err_from_is_err_and c.from_residual.result c.from_residual.ensures.1 in
    rw (p.1, p.2)
    (record {
      goes = subst (λ (x : ListingCall). Goes t [] t' [] (listing_deed x) (Refused e)) (sym c.in-Begin.is)
          (goes_begun t c.args.on.now.waiting {T = Unit {0}} c.in-Begin.index t' (Err e) c.in_err-begin-in-Begin.ensures.answer c.in_err-begin-in-Begin.ensures.after);
    })

pub returns-in_ok-begin-in-Begin : goal.returns-in_ok-begin-in-Begin
returns-in_ok-begin-in-Begin c =
    let t = listing c.args.on.now in
    let t' = listing c.begin.new.self in
    record {
      goes = subst (λ (x : ListingCall). Goes t [] t' [] (listing_deed x) Done) (sym c.in-Begin.is)
          (goes_begun t c.args.on.now.waiting {T = Unit {0}} c.in-Begin.index t' (Ok tt) c.in_ok-begin-in-Begin.ensures.answer c.in_ok-begin-in-Begin.ensures.after);
    }

pub returns-in_err-enter-in-Enter : goal.returns-in_err-enter-in-Enter
returns-in_err-enter-in-Enter c =
    let t = listing c.args.on.now in
    let t' = listing c.enter.new.self in
    let e = c.in_err-enter-in-Enter.field-0.0 in
    let p = err_from_is_err_and c.from_residual-in_err-enter-in-Enter.result c.from_residual-in_err-enter-in-Enter.ensures.1 in
    rw (p.1, p.2)
    (record {
      goes = subst (λ (x : ListingCall). Goes t [] t' [] (listing_deed x) (Refused e)) (sym c.in-Enter.is)
          (goes_entered t c.args.on.now.waiting {T = Unit {0}} c.in-Enter.modulus c.in-Enter.generator t' (Err e) c.in_err-enter-in-Enter.ensures.answer
          c.in_err-enter-in-Enter.ensures.after c.enter.new.self.waiting);
    })

pub returns-in_ok-enter-in-Enter : goal.returns-in_ok-enter-in-Enter
returns-in_ok-enter-in-Enter c =
    let t = listing c.args.on.now in
    let t' = listing c.enter.new.self in
    record {
      goes = subst (λ (x : ListingCall). Goes t [] t' [] (listing_deed x) Done) (sym c.in-Enter.is)
          (goes_entered t c.args.on.now.waiting {T = Unit {0}} c.in-Enter.modulus c.in-Enter.generator t' (Ok tt) c.in_ok-enter-in-Enter.ensures.answer
          c.in_ok-enter-in-Enter.ensures.after c.enter.new.self.waiting);
    }
