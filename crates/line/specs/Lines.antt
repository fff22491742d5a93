-- The bytes of the two kinds of line: numbers in decimal, single blanks, a line feed.
-- Assumes nothing.
use Rattle.std.specs.Prelude.{ℕ, List, [], ◌∷◌, ◌++◌, codes, decimal}
use Rattle.theory.specs.Kinds.{kind_name}
use Rattle.line.specs.declared.text.Line.{Line}
use Rattle.line.specs.declared.text.Line.TheVariants.{Residue, Refused}

abbrev pub blank : List ℕ
blank = codes " "

abbrev pub line_feed : List ℕ
line_feed = 10 ∷ []

-- the bytes of a line: index, modulus, residue and kind, or the number of a refusal and its record
abbrev pub line_bytes : Line → List ℕ
line_bytes (Residue k p r kind) =
    decimal k ++ blank ++ decimal p ++ blank ++ decimal r ++ blank ++ kind_name kind ++ line_feed
line_bytes (Refused n i) = codes "refused " ++ decimal n ++ blank ++ codes "record " ++ decimal i ++ line_feed
