-- One call on a book or a run of a session.
-- Assumes nothing.
use Rattle.std.specs.Prelude.{◌≡◌, ◌+◌, ◌≤◌, Ok, Err, vec_items, vec_len, vec_capacity, Result}
use Rattle.arithmetic.specs.declared.refusal.Refusal.{Refusal}
use Rattle.book.specs.Books.{book}
use Rattle.session.specs.declared.answer.Answer.{Answer}
use Rattle.session.specs.declared.answer.Answer.TheVariants.{Refused}
use Rattle.session.specs.declared.state.State.{State}
use Rattle.session.specs.Events.{Deed}
use Rattle.session.specs.Sessions.{Goes}

-- the call d was lawfully answered a, and opened one run at most in the memory that was there
pub record Turn (before after : State) (d : Deed) (a : Answer) : Type 0 where
  pub goes : Goes (book before.book) (vec_items before.runs) (book after.book) (vec_items after.runs) d a
  pub capacity : vec_capacity after.runs ≡ vec_capacity before.runs
  pub few : vec_len after.runs ≤ vec_len before.runs + 1

-- the answer of a call that may be refused
abbrev pub answer_of : Result Answer Refusal → Answer
answer_of (Ok a) = a
answer_of (Err e) = Refused e
