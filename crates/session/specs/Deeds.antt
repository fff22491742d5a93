-- The calls of a list as plain data.
-- Assumes nothing.
use Rattle.std.specs.Prelude.{ℕ, List, ◌++◌, map, vec_len}
use Rattle.session.specs.declared.call.BookCall.{BookCall}
use Rattle.session.specs.declared.call.BookCall.TheVariants.{Open as OpenCall, CarryOn as CarryOnCall, CountOn as CountOnCall, Finish as FinishCall, Tell as TellCall, Fill as FillCall, FillWith as FillWithCall, Show as ShowCall}
use Rattle.session.specs.declared.call.ListingCall.{ListingCall}
use Rattle.session.specs.declared.call.ListingCall.TheVariants.{Begin as BeginCall, Enter as EnterCall}
use Rattle.session.specs.Events.{Deed, Begin, Enter, Open, CarryOn, CountOn, Finish, Tell, Fill, FillWith, Show}
use Rattle.session.specs.Sessions.{outcome_of}

abbrev pub listing_deed : ListingCall → Deed
listing_deed (BeginCall k) = Begin k
listing_deed (EnterCall p g) = Enter p g

-- an arithmetic and a digit source count by the modulus that they tell
abbrev pub book_deed : {W D : Type 0} → (W → ℕ) → (D → ℕ) → BookCall W D → Deed
book_deed m s (OpenCall kind p) = Open kind p
book_deed m s (CarryOnCall r w c) = CarryOn r (m w) c
book_deed m s (CountOnCall r w d cells c) = CountOn r (vec_len cells) (m w) (s d) c
book_deed m s (FinishCall r w) = Finish r (m w)
book_deed m s (TellCall r) = Tell r
book_deed m s (FillCall r) = Fill r
book_deed m s (FillWithCall f) = FillWith (outcome_of f)
book_deed m s (ShowCall p) = Show p

-- the calls on the listing, and after its release those on the book
abbrev pub deeds : {W D : Type 0} → (W → ℕ) → (D → ℕ) → List ListingCall → List (BookCall W D) → List Deed
deeds m s listed booked = map listing_deed listed ++ map (book_deed m s) booked
