-- A released listing is worked position by position: every position still to come waits, so that each gives its line.
-- Main statements: released_waits, still_waits, tells, positions.
-- Assumes nothing.
use Rattle.std.proofs.Common.{◌≡◌, ℕ, ◌+◌, ◌<◌, ◌≤◌, true, false, List, length, get_or, is_some, Some, None, Option, sym, refl, ap, ◌∙◌, subst, ⊎_elim, arith}
use Rattle.std.specs.List.{slice_get}
use Rattle.std.proofs.lemmas.Option.{slice_get-get_or}
use Rattle.std.proofs.lemmas.Bool.{not-true, cond-false}
use Rattle.line.specs.declared.text.Line.{Line}
use Rattle.table.specs.declared.pair.Pair.{Pair}
use Rattle.table.specs.Chain.{Contents, chained, chain_pairs, every, head}
use Rattle.table.specs.Fitness.{record_waits}
use Rattle.table.proofs.Records.{every_at}
use Rattle.book.specs.Worked.{record_of, waits_not}
use Rattle.book.proofs.Lookups.{record_place}
use Rattle.work.specs.Lines.{waiting, waiting_at, WorkedAt, Stays}
use Rattle.work.proofs.Along.{along_length}

-- at every position from i on the pair there waits
abbrev pub WaitFrom : Contents → ℕ → Type 0
WaitFrom t i = (j : ℕ) → i ≤ j → waiting_at t j ≡ slice_get (chain_pairs t) j

-- no record of a listing has its residue
all_wait : (t : Contents) → every record_waits t.records ≡ true → (p : ℕ) → waits_not (record_of t.records p) ≡ false
all_wait t all p =
    ⊎_elim
    (λ (at : (i : ℕ) × (i < length t.records) × (record_of t.records p ≡ Some (get_or t.records i (head 0)))).
    ap waits_not at.2 ∙ not-true _ (every_at record_waits t.records at.0 (head 0) all at.1))
    (λ (none : record_of t.records p ≡ None). ap waits_not none)
    (record_place t.records p)

pub released_waits : (t : Contents) → every record_waits t.records ≡ true → WaitFrom t 0
released_waits t all j _ = by_pair (slice_get (chain_pairs t) j)
  where
    by_pair : (o : Option Pair) → waiting t o ≡ o
    by_pair None = refl
    by_pair (Some x) = cond-false _ None (Some x) (all_wait t all x.modulus)

-- there are as many positions as records
pub positions : (t : Contents) → chained t.first t.records ≡ true → length (chain_pairs t) ≡ length t.records
positions t up = along_length t.first t.records up

-- the record at a position is worked: all later positions wait as before
pub still_waits : (t after : Contents) (i : ℕ) → Stays t after i → WaitFrom t i → WaitFrom after (i + 1)
still_waits t after i kept wait j later =
    kept.others j (λ e. omega arith) ∙ wait j (omega arith) ∙ ap (λ (xs : List Pair). slice_get xs j) (sym kept.chain_is)

-- and it gives its line
pub tells : (t after : Contents) (i : ℕ) (told : Option Line) → WorkedAt t after (waiting_at t i) told → WaitFrom t i → i < length (chain_pairs t)
    → is_some told ≡ true
tells t after i told worked wait within =
    let none : Pair = record { modulus = 0; generator = 0 } in
    let x = get_or (chain_pairs t) i none in
    let is : waiting_at t i ≡ Some x = wait i (omega arith) ∙ slice_get-get_or (chain_pairs t) i none within in
    let w = subst (λ (o : Option Pair). WorkedAt t after o told) is worked in
    ap is_some w.line_is
