-- What working a record comes to.
-- Main statements: worked, filled_already, stays.
-- Assumes nothing.
use Rattle.std.proofs.Common.{◌≡◌, ℕ, ◌-◌, true, false, cond, not, ◌≢◌, List, is_some, Some, None, Ok, Err, Option, sym, refl, ap, ◌∙◌, subst, ⊎_elim, arith}
use Rattle.std.specs.List.{slice_get}
use Rattle.std.proofs.lemmas.Bool.{cond-true, cond-false, cases_Bool, not_from_true}
use Rattle.theory.specs.declared.kind.Kind.{Kind}
use Rattle.theory.specs.declared.kind.Kind.TheVariants.{Direct, Doubling}
use Rattle.theory.specs.Bernoulli.{BernoulliMod}
use Rattle.theory.specs.Kinds.{can_run, run_result}
use Rattle.theory.specs.Pairs.{Fit, Sound}
use Rattle.theory.proofs.EitherKind.{run_gives_bernoulli}
use Rattle.arithmetic.specs.declared.refusal.Refusal.{Refusal}
use Rattle.arithmetic.specs.Causes.{first_cause}
use Rattle.arithmetic.proofs.Causes.{all_fail, none_first}
use Rattle.run.specs.declared.finished.FinishedResidue.{FinishedResidue}
use Rattle.run.specs.declared.state.Run.{Run}
use Rattle.run.specs.Finishing.{ResultOf}
use Rattle.run.specs.Places.{kind_of}
use Rattle.line.specs.declared.text.Line.{Line}
use Rattle.line.specs.declared.text.Line.TheVariants.{Residue}
use Rattle.table.specs.declared.pair.Pair.{Pair}
use Rattle.table.specs.declared.pair.Record.{Record}
use Rattle.table.specs.Chain.{Contents, chained, chain_pairs, number_of}
use Rattle.table.specs.Filling.{filled}
use Rattle.book.specs.Books.{Opened, FilledIn, open_causes}
use Rattle.book.specs.Worked.{record_of, waits_not}
use Rattle.book.proofs.Lookups.{number_place, filled_record, filled_others}
use Rattle.work.specs.Lines.{kind_for, result_for, waiting, waiting_at, WorkedAt, Stays}
use Rattle.work.proofs.Along.{pair_listed, pairs_differ, filled_pairs}

-- a run of the kind that a pair is worked by can be opened
kind_runs : (p k : ℕ) → can_run (kind_for p k) p k ≡ true
unfolding can_run
kind_runs p k =
    ⊎_elim
    (λ (e : can_run Doubling p k ≡ true). ap (λ (kind : Kind). can_run kind p k) (cond-true (can_run Doubling p k) Doubling Direct e) ∙ e)
    (λ (e : can_run Doubling p k ≡ false). ap (λ (kind : Kind). can_run kind p k) (cond-false (can_run Doubling p k) Doubling Direct e))
    (cases_Bool (can_run Doubling p k))

-- a finished residue is the result of a whole run of what it is of
result_of : (f : FinishedResidue) (kind : Kind) (k p g : ℕ) → f.kind ≡ kind → f.index ≡ k → f.modulus ≡ p → f.generator ≡ g → ResultOf f kind k p g
result_of f kind k p g kind_is index_is modulus_is generator_is =
    let own = f.result in
    record { kind_is = kind_is; index_is = index_is; modulus_is = modulus_is; generator_is = generator_is; residue_is = cc }

-- and so is its line
line_told : (f : FinishedResidue) (line : Line) (kind : Kind) (k p g : ℕ) → ResultOf f kind k p g
    → line ≡ Residue f.index f.modulus f.residue f.kind → line ≡ Residue k p (run_result kind p g k) kind
line_told f line kind k p g is told = cc

-- the result of a whole run, where the pair is sound
told_bernoulli : (f : FinishedResidue) (kind : Kind) (k p g : ℕ) → ResultOf f kind k p g → Sound p g → BernoulliMod p k (run_result kind p g k)
told_bernoulli f kind k p g is sound =
    run_gives_bernoulli kind k p g
    (subst (λ (n : ℕ). Fit k p n) is.generator_is
    (subst (λ (n : ℕ). Fit k n f.generator) is.modulus_is
    (subst (λ (n : ℕ). Fit n f.modulus f.generator) is.index_is f.fit)))
    sound
    (subst (λ (n : ℕ). can_run kind p n ≡ true) is.index_is
    (subst (λ (n : ℕ). can_run kind n f.index ≡ true) is.modulus_is
    (subst (λ (m : Kind). can_run m f.modulus f.index ≡ true) is.kind_is f.usable)))

module _ (t : Contents) (up : chained t.first t.records ≡ true) (i : ℕ) (x : Pair) (at : slice_get (chain_pairs t) i ≡ Some x) where
  -- the pair at the position, told by whether its record waits
  waits : waits_not (record_of t.records x.modulus) ≡ false → waiting_at t i ≡ Some x
  waits e = rw (at, e)

  full : waits_not (record_of t.records x.modulus) ≡ true → waiting_at t i ≡ None
  full e = rw (at, e)

  -- a run is refused for a listed pair only where its record has its residue
  pub filled_already : (e : Refusal) → Opened t (kind_for x.modulus t.index) x.modulus (Err e) → waiting_at t i ≡ None
  filled_already e refused =
      let p = x.modulus in
      let kind = kind_for p t.index in
      let found = pair_listed t.first t.records up i x at in
      ⊎_elim
      full
      (λ (empty : waits_not (record_of t.records p) ≡ false).
      let none : first_cause (open_causes t kind p) ≡ None =
      none_first (open_causes t kind p)
      (ap (λ (o : Option Record). not (is_some o)) found.1, (empty, (not_from_true (can_run kind p t.index) (kind_runs p t.index), tt)))
      in
      let never : None ≡ Some e = sym none ∙ refused in
      absurd (let z : ◌≡◌ {A = ℕ} 0 1 = cc in omega arith))
      (cases_Bool (waits_not (record_of t.records p)))

  pub worked : {T : Type 0} (after : Contents) (run : Run) (f : FinishedResidue) (line : Line) (u : T)
      → Opened t (kind_for x.modulus t.index) x.modulus (Ok run)
      → ResultOf f (kind_of run.progress) run.index run.modulus run.generator
      → line ≡ Residue f.index f.modulus f.residue f.kind
      → FilledIn t after f (Ok u)
      → WorkedAt t after (waiting_at t i) (Some line)
  worked after run f line u opened result told filling =
      let p = x.modulus in
      let g = x.generator in
      let k = t.index in
      let kind = kind_for p k in
      let found = pair_listed t.first t.records up i x at in
      let all = all_fail (open_causes t kind p) opened.0 in
      let stands = opened.1.2 in
      let alike : Some opened.1.0 ≡ Some found.0 = sym opened.1.1 ∙ found.1 in
      let same : opened.1.0 ≡ found.0 = cc in
      let is =
      result_of f kind k p g
      (result.kind_is ∙ stands.kind_is)
      (result.index_is ∙ stands.index_is)
      (result.modulus_is ∙ stands.modulus_is)
      (result.generator_is ∙ stands.generator_is ∙ ap (λ (r : Record). r.generator) same ∙ found.2)
      in
      subst (λ (o : Option Pair). WorkedAt t after o (Some line)) (sym (waits all.1.0))
      record {
        line_is = ap (λ (l : Line). Some l) (line_told f line kind k p g is told);
        number = filling.1.0;
        number_is = subst (λ (m : ℕ). number_of t.records m ≡ Some filling.1.0) is.modulus_is filling.1.1;
        after_is = filling.1.2 ∙ ap (filled t filling.1.0) is.residue_is;
        bernoulli = told_bernoulli f kind k p g is;
      }

-- the pair that waits at a position is the pair there
waiting_pair : (t : Contents) (o : Option Pair) (x : Pair) → waiting t o ≡ Some x → o ≡ Some x
waiting_pair t None x h = h
waiting_pair t (Some y) x h =
    let full = waits_not (record_of t.records y.modulus) in
    ⊎_elim
    (λ (e : full ≡ true).
    let none : None ≡ Some x = sym (cond-true full None (Some y) e) ∙ h in
    absurd (let z : ◌≡◌ {A = ℕ} 0 1 = cc in omega arith))
    (λ (e : full ≡ false). sym (cond-false full None (Some y) e) ∙ h)
    (cases_Bool full)

-- a record filled in: the pair at its position waits no more, and those at the others are as they were
module _ (t : Contents) (up : chained t.first t.records ≡ true) (i : ℕ) (x : Pair) (at : slice_get (chain_pairs t) i ≡ Some x)
    (n v : ℕ) (number : number_of t.records x.modulus ≡ Some n) where
  chain_kept : chain_pairs (filled t n v) ≡ chain_pairs t
  chain_kept = filled_pairs t.first t.records (n - 1) v (number_place t.records x.modulus n number).1

  waits_no_more : waiting_at (filled t n v) i ≡ None
  waits_no_more =
      ap (λ (xs : List Pair). waiting (filled t n v) (slice_get xs i)) chain_kept
      ∙ ap (waiting (filled t n v)) at
      ∙ ap (λ (o : Option Record). cond (waits_not o) None (Some x)) (filled_record t n v x.modulus number)

  others_kept : (j : ℕ) → j ≢ i → waiting_at (filled t n v) j ≡ waiting_at t j
  others_kept j ne = ap (λ (xs : List Pair). waiting (filled t n v) (slice_get xs j)) chain_kept ∙ by_pair (slice_get (chain_pairs t) j) refl
    where
      by_pair : (o : Option Pair) → slice_get (chain_pairs t) j ≡ o → waiting (filled t n v) o ≡ waiting t o
      by_pair None is = refl
      by_pair (Some y) is =
          ap (λ (o : Option Record). cond (waits_not o) None (Some y))
          (filled_others t n v x.modulus number y.modulus (pairs_differ t.first t.records up i j x y at is ne))

-- where the record at a position was worked, or none waited there, the rest stays
pub stays : (t after : Contents) (i : ℕ) (told : Option Line) → chained t.first t.records ≡ true
    → WorkedAt t after (waiting_at t i) told → Stays t after i
stays t after i told up h = by_waiting (waiting_at t i) refl h
  where
    by_waiting : (o : Option Pair) → waiting_at t i ≡ o → WorkedAt t after o told → Stays t after i
    by_waiting None none same = record {
      index_is = ap (λ (c : Contents). c.index) same.1;
      chain_is = ap chain_pairs same.1;
      done = ap (λ (c : Contents). waiting_at c i) same.1 ∙ none;
      others = λ j ne. ap (λ (c : Contents). waiting_at c j) same.1;
    }
    by_waiting (Some x) waiting-is w =
        let at = waiting_pair t (slice_get (chain_pairs t) i) x waiting-is in
        let v = result_for t.index x.modulus x.generator in
        let is = w.after_is in
        record {
          index_is = ap (λ (c : Contents). c.index) is;
          chain_is = ap chain_pairs is ∙ chain_kept t up i x at w.number v w.number_is;
          done = ap (λ (c : Contents). waiting_at c i) is ∙ waits_no_more t up i x at w.number v w.number_is;
          others = λ j ne. ap (λ (c : Contents). waiting_at c j) is ∙ others_kept t up i x at w.number v w.number_is j ne;
        }
