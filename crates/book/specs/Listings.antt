-- Listings as their calls speak of them.
-- Assumes nothing.
use Rattle.std.specs.Prelude.{◌≡◌, ℕ, true, List, is_ok, Result}
use Rattle.file.specs.Layout.{encode}
use Rattle.table.specs.declared.fault.Fault.{Fault}
use Rattle.table.specs.Chain.{Contents}
use Rattle.table.specs.Tables.{contents}
use Rattle.book.specs.declared.listing.Listing.{Listing}

-- what a listing holds: index, chain and records
abbrev pub listing : Listing → Contents
listing l = contents l.table

-- an accepted file is that of the listing read: written again, it has the same bytes
abbrev pub WrittenAgain : {T : Type 0} → List ℕ → Contents → Result T Fault → Type 0
WrittenAgain bytes after r = is_ok r ≡ true → encode after ≡ bytes

-- the file of any listing is accepted, and the listing read holds what that one holds
abbrev pub FoundAgain : {T : Type 0} → List ℕ → Contents → Result T Fault → Type 0
FoundAgain bytes after r = (l : Listing) → encode (listing l) ≡ bytes → (is_ok r ≡ true) × (after ≡ listing l)
