-- What the work on a record gives.
-- Assumes nothing.
use Rattle.std.specs.Prelude.{◌≡◌, ℕ, cond, ◌≢◌, Some, None, Option}
use Rattle.std.specs.List.{slice_get}
use Rattle.theory.specs.declared.kind.Kind.{Kind}
use Rattle.theory.specs.declared.kind.Kind.TheVariants.{Direct, Doubling}
use Rattle.theory.specs.Bernoulli.{BernoulliMod}
use Rattle.theory.specs.Kinds.{can_run, run_result}
use Rattle.theory.specs.Pairs.{Sound}
use Rattle.line.specs.declared.text.Line.{Line}
use Rattle.line.specs.declared.text.Line.TheVariants.{Residue, Refused}
use Rattle.table.specs.declared.fault.Fault.{Fault}
use Rattle.table.specs.declared.pair.Pair.{Pair}
use Rattle.table.specs.Chain.{Contents, chain_pairs, number_of}
use Rattle.table.specs.Filling.{filled}
use Rattle.table.specs.Numbers.{fault_number}
use Rattle.book.specs.Worked.{record_of, waits_not}

-- the kind of run that a pair is worked by: doubling where such a run can be opened, else direct
abbrev pub kind_for : ℕ → ℕ → Kind
kind_for p k = cond (can_run Doubling p k) Doubling Direct

-- the residue of the index k for the pair (p, g)
abbrev pub result_for : ℕ → ℕ → ℕ → ℕ
result_for k p g = run_result (kind_for p k) p g k

-- the line of the index k for the pair (p, g)
abbrev pub line_for : ℕ → ℕ → ℕ → Line
line_for k p g = Residue k p (result_for k p g) (kind_for p k)

-- a pair whose record waits
abbrev pub waiting : Contents → Option Pair → Option Pair
waiting t None = None
waiting t (Some x) = cond (waits_not (record_of t.records x.modulus)) None (Some x)

-- the pair at that position of the chain, none past the last and none where its record has its residue
abbrev pub waiting_at : Contents → ℕ → Option Pair
waiting_at t position = waiting t (slice_get (chain_pairs t) position)

-- the record of the pair (p, g) is worked: its line is told, its residue, which for a sound pair is B_k modulo p, is
-- filled in, and nothing else is changed
pub record Worked (before after : Contents) (p g : ℕ) (told : Option Line) : Type 0 where
  pub line_is : told ≡ Some (line_for before.index p g)
  pub number : ℕ
  pub number_is : number_of before.records p ≡ Some number
  pub after_is : after ≡ filled before number (result_for before.index p g)
  pub bernoulli : Sound p g → BernoulliMod p before.index (result_for before.index p g)

-- the work on a pair that waits; where there is none, nothing is told and nothing changed
abbrev pub WorkedAt : Contents → Contents → Option Pair → Option Line → Type 0
WorkedAt before after None told = (told ≡ None) × (after ≡ before)
WorkedAt before after (Some x) told = Worked before after x.modulus x.generator told

-- working the record at a position keeps the index and the pairs along the chain; at that position none waits then, and
-- at every other what waited before
pub record Stays (before after : Contents) (position : ℕ) : Type 0 where
  pub index_is : after.index ≡ before.index
  pub chain_is : chain_pairs after ≡ chain_pairs before
  pub done : waiting_at after position ≡ None
  pub others : (j : ℕ) → j ≢ position → waiting_at after j ≡ waiting_at before j

-- the line of a fault
abbrev pub fault_line : Fault → Line
fault_line f = Refused (fault_number f) f.record
