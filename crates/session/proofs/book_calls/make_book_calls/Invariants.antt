use Rattle.std.proofs.Common.{◌≡◌, ◌+◌, ◌≤◌, ◌++◌, map, vec_items, vec_len, vec_capacity}
use Rattle.std.specs.Vec.Iter.{into_iter_items, into_iter_len}
use Rattle.book.specs.Books.{book}
use Rattle.session.specs.Deeds.{book_deed}
use Rattle.session.specs.Sessions.{Went}
use Rattle.session.proofs.book_calls.make_book_calls.Given as goal

-- the calls that came are answered, and there is room for the others
abbrev pub invariant-loop-call : goal.invariant-loop-call
invariant-loop-call g l =
    (goal.iterator-loop-call g).can_next l.call-iterator
    × (goal.iterator-loop-call g).is_finite l.call-iterator
    × (into_iter_items l.initial.call-iterator ≡ l.yielded ++ into_iter_items l.call-iterator)
    × Went (book l.initial.state.book) (vec_items l.initial.state.runs) (book l.state.book) (vec_items l.state.runs)
    (map (book_deed g.W.Arithmetic.modulus g.D.DigitSource.modulus) l.yielded) (vec_items l.initial.answers) (vec_items l.answers)
    × (vec_len l.answers + into_iter_len l.call-iterator ≤ vec_capacity l.answers)
    × (vec_len l.state.runs + into_iter_len l.call-iterator ≤ vec_capacity l.state.runs)
