-- The walk along the chain: what is left of the tests has the first fault.
use Rattle.std.proofs.Common.{◌≡◌, ℕ, zero, suc, ◌+◌, ◌≤◌, ◌≢◌, ◌⊎◌, List, length, Some, None, sym, refl, ap, ◌∙◌, subst, ⊎_elim, arith}
use Rattle.std.specs.Result.{result_err}
use Rattle.std.proofs.lemmas.Result.{err_from_is_err_and}
use Rattle.table.specs.declared.fault.Damage.TheVariants.{Chain}
use Rattle.table.specs.declared.fault.Fault.{Fault}
use Rattle.table.specs.declared.fault.Layer.TheVariants.{File}
use Rattle.table.specs.declared.pair.Record.{Record}
use Rattle.table.specs.declared.table.walk.Walk.{Walk}
use Rattle.table.specs.Chain.{numbered, rows, row, head, next_in, modulus_in}
use Rattle.table.specs.Faults.{fault, record_tests, chain_tests}
use Rattle.arithmetic.specs.Causes.{first_cause}
use Rattle.table.proofs.Judged.{test_early, test_far, test_bad, test_on, test_over, test_end}
use Rattle.table.proofs.Records.{row_at, numbered_some, numbered_none}
use Rattle.table.proofs.table.restoring.judge_chain.Goals as goal

module _ (first k : ℕ) (rs : List Record) (left at next : ℕ) (is : next ≡ next_in (rows first rs) at)
    (inv : first_cause (chain_tests (rows first rs) k (length rs) (length rs) 0) ≡ first_cause (chain_tests (rows first rs) k (length rs) left at)) where
  -- the walk goes on to a record
  module _ (others before : ℕ) (r : Record) (less : others + 1 ≡ left) (found : numbered rs next ≡ Some r)
      (was : before ≡ modulus_in (rows first rs) at) where
    here : row (rows first rs) next ≡ r
    here = row_at first rs next (numbered_some rs next r (head 0) found).0 ∙ (numbered_some rs next r (head 0) found).2

    start : first_cause (chain_tests (rows first rs) k (length rs) (length rs) 0) ≡ first_cause (chain_tests (rows first rs) k (length rs) (suc others) at)
    start =
        let e : left ≡ suc others = omega arith in
        inv ∙ ap (λ (n : ℕ). first_cause (chain_tests (rows first rs) k (length rs) n at)) e

    low : next_in (rows first rs) at ≢ 0
    low z = omega (arith, (numbered_some rs next r (head 0) found).0)

    near : next_in (rows first rs) at ≤ length rs
    near = omega (arith, (numbered_some rs next r (head 0) found).1)

    -- the tests of the record, as they were made
    tests : first_cause (record_tests k before next r)
        ≡ first_cause (record_tests k (modulus_in (rows first rs) at) (next_in (rows first rs) at) (row (rows first rs) (next_in (rows first rs) at)))
    tests =
        ap (λ (x : Record). first_cause (record_tests k before next x)) (sym here)
        ∙ ap (λ (m : ℕ). first_cause (record_tests k m next (row (rows first rs) next))) was
        ∙ ap (λ (n : ℕ). first_cause (record_tests k (modulus_in (rows first rs) at) n (row (rows first rs) n))) is

    bad : (f : Fault) → Some f ≡ first_cause (record_tests k before next r) → Some f ≡ first_cause (chain_tests (rows first rs) k (length rs) (length rs) 0)
    bad f found' = sym (start ∙ test_bad (rows first rs) k (length rs) others at f low near (sym (found' ∙ tests)))

    on : None ≡ first_cause (record_tests k before next r)
        → first_cause (chain_tests (rows first rs) k (length rs) (length rs) 0) ≡ first_cause (chain_tests (rows first rs) k (length rs) others next)
    on none =
        start
        ∙ test_on (rows first rs) k (length rs) others at low near (sym (none ∙ tests))
        ∙ ap (λ (n : ℕ). first_cause (chain_tests (rows first rs) k (length rs) others n)) (sym is)

  -- it has ended
  beyond : (n : ℕ) → left ≡ n → (left ≡ 0) ⊎ (numbered rs next ≡ None) → next ≢ 0
      → Some (fault next (File Chain)) ≡ first_cause (chain_tests (rows first rs) k (length rs) (length rs) 0)
  beyond zero e ended ne =
      ap (λ (i : ℕ). Some (fault i (File Chain))) is
      ∙ sym (inv ∙ ap (λ (n : ℕ). first_cause (chain_tests (rows first rs) k (length rs) n at)) e
      ∙ test_over (rows first rs) k (length rs) at (λ z. ne (is ∙ z)))
  beyond (suc n) e ended ne =
      ap (λ (i : ℕ). Some (fault i (File Chain))) is
      ∙ sym (inv ∙ ap (λ (m : ℕ). first_cause (chain_tests (rows first rs) k (length rs) m at)) e
      ∙ test_far (rows first rs) k (length rs) n at (λ z. ne (is ∙ z))
      (⊎_elim (λ (z : left ≡ 0). omega arith) (λ (none : numbered rs next ≡ None). omega (arith, numbered_none rs next ne none)) ended))

  early : (n : ℕ) → left ≡ n → left ≢ 0 → next ≡ 0 → Some (fault at (File Chain)) ≡ first_cause (chain_tests (rows first rs) k (length rs) (length rs) 0)
  early zero e ne z = absurd (ne e)
  early (suc n) e ne z =
      sym (inv ∙ ap (λ (m : ℕ). first_cause (chain_tests (rows first rs) k (length rs) m at)) e
      ∙ test_early (rows first rs) k (length rs) n at (sym is ∙ z))

  whole : left ≡ 0 → next ≡ 0 → None ≡ first_cause (chain_tests (rows first rs) k (length rs) (length rs) 0)
  whole e z =
      sym (inv ∙ ap (λ (m : ℕ). first_cause (chain_tests (rows first rs) k (length rs) m at)) e
      ∙ test_end (rows first rs) k (length rs) at (sym is ∙ z))

-- what the walk met, in the records as they were passed
module _ (xs rs : List Record) (next number : ℕ) (r : Record) (same : xs ≡ rs) (is : number ≡ next) where
  found_there : numbered xs next ≡ Some r → numbered rs next ≡ Some r
  found_there h = ap (λ (ys : List Record). numbered ys next) (sym same) ∙ h

  judged_there : (k before : ℕ) → first_cause (record_tests k before number r) ≡ first_cause (record_tests k before next r)
  judged_there k before = ap (λ (n : ℕ). first_cause (record_tests k before n r)) is

ended_there : (xs rs : List Record) (left next : ℕ) → xs ≡ rs → (left ≡ 0) ⊎ (numbered xs next ≡ None) → (left ≡ 0) ⊎ (numbered rs next ≡ None)
ended_there xs rs left next same h = subst (λ (ys : List Record). (left ≡ 0) ⊎ (numbered ys next ≡ None)) same h

pub returns-in_err-judge_record : goal.returns-in_err-judge_record
returns-in_err-judge_record c =
    let p = err_from_is_err_and c.from_residual.result c.from_residual.ensures.1 in
    let w = c.loop-number.walk in
    let inv = c.loop-number.invariant in
    let met = c.in-Some.ensures.ends in
    let r = c.in-Some.record in
    let rs = c.args.records.now in
    record {
      answer =
          ap result_err p.1
          ∙ ap (λ (f : Fault). Some f) p.2
          ∙ bad c.args.first c.args.index rs w.left w.at w.next inv.next inv.tests c.next.new.self.left c.loop-number.before r met.5
          (found_there w.records.now rs w.next c.in-Some.number r inv.same met.0 met.1) inv.before c.in_err-judge_record.field-0.0
          (c.in_err-judge_record.ensures.answer ∙ judged_there w.records.now rs w.next c.in-Some.number r inv.same met.0 c.args.index c.loop-number.before);
    }

pub loop-number-preserved : goal.loop-number-preserved
loop-number-preserved c =
    let w = c.loop-number.walk in
    let inv = c.loop-number.invariant in
    let met = c.in-Some.ensures.ends in
    let r = c.in-Some.record in
    let rs = c.args.records.now in
    let found = found_there w.records.now rs w.next c.in-Some.number r inv.same met.0 met.1 in
    let to : c.next.new.self.at ≡ w.next = met.3 ∙ met.0 in
    let there : row (rows c.args.first rs) c.next.new.self.at ≡ r =
    ap (λ (n : ℕ). row (rows c.args.first rs) n) to
    ∙ here c.args.first c.args.index rs w.left w.at w.next inv.next inv.tests c.next.new.self.left c.loop-number.before r met.5 found inv.before
    in record {
      same = met.2 ∙ inv.same;
      within = omega (arith, to, (numbered_some rs w.next r (head 0) found).1);
      next = met.4 ∙ ap (λ (x : Record). x.next) (sym there);
      before = ap (λ (x : Record). x.modulus) (sym there);
      tests =
          on c.args.first c.args.index rs w.left w.at w.next inv.next inv.tests c.next.new.self.left c.loop-number.before r met.5 found inv.before
          (c.in_ok-judge_record.ensures.answer ∙ judged_there w.records.now rs w.next c.in-Some.number r inv.same met.0 c.args.index c.loop-number.before)
          ∙ ap (λ (n : ℕ). first_cause (chain_tests (rows c.args.first rs) c.args.index (length rs) c.next.new.self.left n)) (sym to);
    }

broken : (f : Fault) (n m : ℕ) → f.«record» ≡ n → f.layer ≡ File Chain → n ≡ m → Some f ≡ Some (fault m (File Chain))
broken f n m number layer e = λ i. Some (record { «record» = (number ∙ e) i; layer = layer i })

pub returns-then-walk-ne0 : goal.returns-then-walk-ne0
returns-then-walk-ne0 c =
    let w = c.loop-number.walk in
    let inv = c.loop-number.invariant in
    let rs = c.args.records.now in
    let ends = c.in_default.ensures.ends in
    let next : c.next.new.self.next ≡ w.next = ap (λ (x : Walk). x.next) ends.0 in
    record {
      answer =
          broken c.at.result c.next.new.self.next w.next c.at.ensures.number c.at.ensures.layer next
          ∙ beyond c.args.first c.args.index rs w.left w.at w.next inv.next inv.tests w.left refl
          (ended_there w.records.now rs w.left w.next inv.same ends.1) (λ z. c.if-walk-ne0.true (next ∙ z));
    }

pub returns-then-walk-ne0-2 : goal.returns-then-walk-ne0-2
returns-then-walk-ne0-2 c =
    let w = c.loop-number.walk in
    let inv = c.loop-number.invariant in
    let ends = c.in_default.ensures.ends in
    let at = c.at-then-walk-ne0-2 in
    record {
      answer =
          broken at.result c.next.new.self.at w.at at.ensures.number at.ensures.layer (ap (λ (x : Walk). x.at) ends.0)
          ∙ early c.args.first c.args.index c.args.records.now w.left w.at w.next inv.next inv.tests w.left refl
          (λ z. c.if-walk-ne0-2.true (ap (λ (x : Walk). x.left) ends.0 ∙ z)) (sym (ap (λ (x : Walk). x.next) ends.0) ∙ c.if-walk-ne0.false);
    }

pub returns : goal.returns
returns c =
    let w = c.loop-number.walk in
    let inv = c.loop-number.invariant in
    let ends = c.in_default.ensures.ends in
    record {
      answer =
          whole c.args.first c.args.index c.args.records.now w.left w.at w.next inv.next inv.tests
          (sym (ap (λ (x : Walk). x.left) ends.0) ∙ c.if-walk-ne0-2.false) (sym (ap (λ (x : Walk). x.next) ends.0) ∙ c.if-walk-ne0.false);
    }
