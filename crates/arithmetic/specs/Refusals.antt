-- The number of each refusal, and its text.
-- Assumes nothing.
use Rattle.std.specs.Prelude.{ℕ, List, codes}
use Rattle.arithmetic.specs.declared.refusal.Refusal.{Refusal}
use Rattle.arithmetic.specs.declared.refusal.Refusal.TheVariants.{Index, Modulus, Generator, IndexAboveModulus, ListingFull, AlreadyListed, OtherGenerator, OtherIndex, NotListed, AlreadyFilled, NotUsable, CellCount, OtherArithmetic, OtherSource, Share, DirectRun, NoTermLeft, TermsLeft, OutputShort}

abbrev pub refusal_number : Refusal → ℕ
refusal_number Index = 1
refusal_number Modulus = 2
refusal_number Generator = 3
refusal_number IndexAboveModulus = 4
refusal_number ListingFull = 5
refusal_number AlreadyListed = 6
refusal_number OtherGenerator = 7
refusal_number OtherIndex = 8
refusal_number NotListed = 9
refusal_number AlreadyFilled = 10
refusal_number NotUsable = 11
refusal_number CellCount = 12
refusal_number OtherArithmetic = 13
refusal_number OtherSource = 14
refusal_number Share = 15
refusal_number DirectRun = 16
refusal_number NoTermLeft = 17
refusal_number TermsLeft = 18
refusal_number OutputShort = 23

abbrev pub refusal_text : Refusal → List ℕ
refusal_text Index = codes "the index is odd or out of range"
refusal_text Modulus = codes "the modulus is even or out of range"
refusal_text Generator = codes "the generator is out of range"
refusal_text IndexAboveModulus = codes "the modulus is too small for the index"
refusal_text ListingFull = codes "the listing is full"
refusal_text AlreadyListed = codes "the modulus is listed already"
refusal_text OtherGenerator = codes "the record has another generator"
refusal_text OtherIndex = codes "the book has another index"
refusal_text NotListed = codes "the modulus is not listed"
refusal_text AlreadyFilled = codes "the record has its residue"
refusal_text NotUsable = codes "a doubling run is not usable"
refusal_text CellCount = codes "not exactly 256 cells"
refusal_text OtherArithmetic = codes "the arithmetic has another modulus"
refusal_text OtherSource = codes "the source has another modulus"
refusal_text Share = codes "the share is out of range"
refusal_text DirectRun = codes "a direct run cannot be counted on"
refusal_text NoTermLeft = codes "no term is left"
refusal_text TermsLeft = codes "terms are left"
refusal_text OutputShort = codes "the output is too short"
