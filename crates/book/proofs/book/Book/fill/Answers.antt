use Rattle.std.proofs.Common.{◌≡◌, ℕ, ◌-◌, ◌<◌, true, get_or, Some, None, Option, ap, ◌∙◌, arith}
use Rattle.std.proofs.lemmas.Bool.{and_from, cond-true, lt-ltb, not_from_false}
use Rattle.theory.specs.declared.kind.Kind.{Kind}
use Rattle.theory.specs.Kinds.{run_result}
use Rattle.arithmetic.specs.Causes.{first_cause}
use Rattle.table.specs.declared.pair.Record.{Record}
use Rattle.table.specs.Chain.{Contents, head, number_of, numbered}
use Rattle.table.specs.Filling.{fillable, filled}
use Rattle.table.specs.Tables.{contents}
use Rattle.book.specs.Books.{fill_causes}
use Rattle.book.proofs.Lookups.{number_place, record_at, record_has}
use Rattle.book.proofs.Refusals.{filling}
use Rattle.book.proofs.Results.{finished_worked, result_under}
use Rattle.book.proofs.book.Book.fill.Goals as goal

pub invariant_of-self : goal.invariant_of-self
invariant_of-self c =
    let t = contents c.args.self.now.table in
    let f = c.args.finished in
    let n = c.in-Ok.number in
    let a = c.in-Ok.ensures.admitted in
    let found = (number_place t.records f.modulus n a.1).2 in
    let alike = filling t f.index f.modulus f.generator (get_or t.records (n - 1) (head 0)) found a.0 in record {
      worked = finished_worked t f.kind f.index f.modulus f.generator c.residue.result n (get_or t.records (n - 1) (head 0)) a.1 found alike.0 alike.1 f.usable c.residue.ensures.result c.fill.result (contents c.fill.new.self) c.fill.ensures.after c.args.self.now.worked;
    }

-- the record that was found takes the residue
takes : (t : Contents) (kind : Kind) (k p g v n : ℕ) → number_of t.records p ≡ Some n → first_cause (fill_causes t k p g) ≡ None
    → 0 < p → v ≡ run_result kind p g k → fillable (numbered t.records n) v ≡ true
takes t kind k p g v n number none low is =
    let found = (number_place t.records p n number).2 in
    let alike = filling t k p g (get_or t.records (n - 1) (head 0)) found none in
    let under : v < (get_or t.records (n - 1) (head 0)).modulus =
    omega (arith, is, result_under kind k p g low, record_has t.records p (get_or t.records (n - 1) (head 0)) found) in
    ap (λ (o : Option Record). fillable o v) (record_at t.records p n number ∙ found)
    ∙ and_from _ _ (not_from_false _ alike.2) (lt-ltb v (get_or t.records (n - 1) (head 0)).modulus under)

pub returns : goal.returns
returns c =
    let t = contents c.args.self.now.table in
    let f = c.args.finished in
    let n = c.in-Ok.number in
    let a = c.in-Ok.ensures.admitted in
    let took = takes t f.kind f.index f.modulus f.generator c.residue.result n a.1 a.0 (omega (arith, f.fit.0.1)) c.residue.ensures.result in
    record {
      filled = (
        a.0,
        (
          n,
          a.1,
          c.fill.ensures.after
              ∙ cond-true c.fill.result (filled t n c.residue.result) t (c.fill.ensures.answer ∙ took)
              ∙ ap (λ (w : ℕ). filled t n w) c.residue.ensures.value,
        ),
      );
    }
