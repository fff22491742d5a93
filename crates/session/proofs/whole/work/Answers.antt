use Rattle.std.proofs.Common.{map, vec_items}
use Rattle.book.specs.Books.{book}
use Rattle.book.specs.Listings.{listing}
use Rattle.session.specs.Deeds.{listing_deed, book_deed}
use Rattle.session.proofs.Going.{went_whole}
use Rattle.session.proofs.whole.work.Goals as goal

pub returns : goal.returns
returns g c =
    record {
      law = went_whole (listing c.in_ok-listing.listing) (listing c.make_listing_calls.new.on) (book c.release-book.result) (book c.make_book_calls.new.state.book)
          (vec_items c.in_ok-runs.runs) (vec_items c.make_book_calls.new.state.runs)
          (map listing_deed c.args.first.now) (map (book_deed g.W.Arithmetic.modulus g.D.DigitSource.modulus) (vec_items c.args.then))
          (vec_items c.in_ok-answers.answers) (vec_items c.make_listing_calls.new.answers) (vec_items c.make_book_calls.new.answers)
          c.make_listing_calls.ensures.went c.make_book_calls.ensures.went
          c.in_ok-listing.ensures.made c.in_ok-answers.ensures.items c.release-book.ensures.same c.in_ok-runs.ensures.items;
    }
