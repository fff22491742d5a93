use Rattle.std.proofs.Common.{◌≡◌, length}
use Rattle.table.specs.Chain.{chain_pairs}
use Rattle.book.specs.Books.{book}
use Rattle.work.proofs.Waiting.{WaitFrom}
use Rattle.residues.proofs.show_residues.Given as goal

abbrev pub invariant-loop-position : goal.invariant-loop-position
invariant-loop-position l =
    WaitFrom (book l.book) l.position × (length (chain_pairs (book l.book)) ≡ l.position-end)
