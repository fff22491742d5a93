use Rattle.std.proofs.Common.{◌≡◌, ◌+◌, [], map, take, vec_items, vec_len, vec_capacity}
use Rattle.book.specs.Listings.{listing}
use Rattle.session.specs.Deeds.{listing_deed}
use Rattle.session.specs.Sessions.{Went}
use Rattle.session.proofs.listing_calls.make_listing_calls.Given as goal

abbrev pub invariant-loop-call : goal.invariant-loop-call
invariant-loop-call l =
    Went (listing l.initial.on) [] (listing l.on) [] (map listing_deed (take l.call-index l.calls)) (vec_items l.initial.answers) (vec_items l.answers)
    × (vec_len l.answers ≡ vec_len l.initial.answers + l.call-index)
    × (vec_capacity l.answers ≡ vec_capacity l.initial.answers)
