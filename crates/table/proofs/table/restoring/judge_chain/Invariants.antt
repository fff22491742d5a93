use Rattle.std.proofs.Common.{◌≡◌, ◌≤◌, length}
use Rattle.table.specs.Chain.{rows, next_in, modulus_in}
use Rattle.table.specs.Faults.{chain_tests}
use Rattle.arithmetic.specs.Causes.{first_cause}
use Rattle.table.proofs.table.restoring.judge_chain.Given as goal

-- the records so far have no fault: what is left has the first one
abbrev pub invariant-loop-number : goal.invariant-loop-number
invariant-loop-number l = record {
  same : l.walk.records.now ≡ l.records;
  within : l.walk.at ≤ length l.records;
  next : l.walk.next ≡ next_in (rows l.first l.records) l.walk.at;
  before : l.before ≡ modulus_in (rows l.first l.records) l.walk.at;
  tests : first_cause (chain_tests (rows l.first l.records) l.index (length l.records) (length l.records) 0)
      ≡ first_cause (chain_tests (rows l.first l.records) l.index (length l.records) l.walk.left l.walk.at);
}

abbrev pub decreases-loop-number : goal.decreases-loop-number
decreases-loop-number l = l.walk.left
