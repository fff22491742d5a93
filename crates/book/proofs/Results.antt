-- Records whose residues are the results of whole runs.
-- Main statements: waiting_worked, result_under, finished_worked, worked_whole.
-- Assumes nothing.
use Rattle.std.proofs.Common.{◌≡◌, ℕ, ◌-◌, ◌<◌, Bool, true, false, cond, not, List, [], ◌∷◌, length, get_or, is_some, Some, None, Option, sym, refl, ap, ◌∙◌, subst, ⊎_elim, arith}
use Rattle.std.proofs.lemmas.Bool.{and_parts, and_from, or_cases, or_left, or_right, eqb-true, eq-eqb}
use Rattle.theory.specs.declared.kind.Kind.{Kind}
use Rattle.theory.specs.declared.kind.Kind.TheVariants.{Direct, Doubling}
use Rattle.theory.specs.Direct.{direct_result}
use Rattle.theory.specs.Doubling.{doubling_result}
use Rattle.theory.specs.Bernoulli.{BernoulliMod}
use Rattle.theory.specs.Kinds.{can_run, run_result}
use Rattle.theory.specs.Pairs.{Fit}
use Rattle.theory.proofs.EitherKind.{run_gives_bernoulli}
use Rattle.table.specs.declared.pair.Record.{Record}
use Rattle.table.specs.Chain.{Contents, every, head, number_of}
use Rattle.table.specs.Filling.{filled, with_residue}
use Rattle.table.specs.Fitness.{record_waits, PairFits}
use Rattle.table.proofs.Fills.{filled_every}
use Rattle.table.proofs.Records.{every_at}
use Rattle.book.specs.Books.{WholeRun, Shows}
use Rattle.book.specs.Worked.{record_of, record_worked, residue_worked, result_by}
use Rattle.book.proofs.Lookups.{number_place, record_has, record_place}

waits : (k p g : ℕ) (o : Option ℕ) → not (is_some o) ≡ true → residue_worked k p g o ≡ true
waits k p g None h = refl
waits k p g (Some v) h = absurd (let z : ◌≡◌ {A = ℕ} 0 1 = cc in omega arith)

-- where every record waits there is no residue
pub waiting_worked : (k : ℕ) (rs : List Record) → every record_waits rs ≡ true → every (record_worked k) rs ≡ true
unfolding every record_worked
waiting_worked k [] all = refl
waiting_worked k (r ∷ rs) all =
    let parts = and_parts _ _ all in
    and_from _ _ (waits k r.modulus r.generator r.residue parts.0) (waiting_worked k rs parts.1)

-- a result is a residue by the modulus
pub result_under : (kind : Kind) (k p g : ℕ) → 0 < p → run_result kind p g k < p
unfolding run_result direct_result doubling_result
result_under Direct k p g low = omega arith
result_under Doubling k p g low = omega arith

result_worked : (kind : Kind) (k p g v : ℕ) → can_run kind p k ≡ true → v ≡ run_result kind p g k → residue_worked k p g (Some v) ≡ true
result_worked Direct k p g v can is = or_left _ _ (and_from _ _ can (eq-eqb v (run_result Direct p g k) is))
result_worked Doubling k p g v can is = or_right _ _ (and_from _ _ can (eq-eqb v (run_result Doubling p g k) is))

-- a residue that a whole run gave, in the record of its pair
module _ (t : Contents) (kind : Kind) (k p g v n : ℕ) (r : Record)
    (number : number_of t.records p ≡ Some n) (record_is : record_of t.records p ≡ Some r)
    (index_is : k ≡ t.index) (generator_is : r.generator ≡ g)
    (can : can_run kind p k ≡ true) (result-is : v ≡ run_result kind p g k) where
  stands : get_or t.records (n - 1) (head 0) ≡ r
  stands =
      let at = number_place t.records p n number in
      let same : Some (get_or t.records (n - 1) (head 0)) ≡ Some r = sym at.2 ∙ record_is in
      cc

  passes : record_worked t.index (with_residue (get_or t.records (n - 1) (head 0)) v) ≡ true
  unfolding record_worked
  passes =
      let modulus_is = record_has t.records p r record_is in
      ap (λ (x : Record). residue_worked t.index x.modulus x.generator (Some v)) stands
      ∙ ap (λ (m : ℕ). residue_worked t.index m r.generator (Some v)) modulus_is
      ∙ ap (λ (h : ℕ). residue_worked t.index p h (Some v)) generator_is
      ∙ ap (λ (i : ℕ). residue_worked i p g (Some v)) (sym index_is)
      ∙ result_worked kind k p g v can result-is

  pub finished_worked : (b : Bool) (after : Contents) → after ≡ cond b (filled t n v) t → every (record_worked t.index) t.records ≡ true
      → every (record_worked after.index) after.records ≡ true
  finished_worked true after now all =
      let at = number_place t.records p n number in
      subst (λ (u : Contents). every (record_worked u.index) u.records ≡ true) (sym now)
      (filled_every t.first t.records (n - 1) (with_residue (get_or t.records (n - 1) (head 0)) v) at.1 (record_worked t.index) all passes)
  finished_worked false after now all =
      subst (λ (u : Contents). every (record_worked u.index) u.records ≡ true) (sym now) all

-- what every record passes, the record of a modulus does
of_record : (test : Record → Bool) (rs : List Record) (p : ℕ) (r : Record) → every test rs ≡ true → record_of rs p ≡ Some r → test r ≡ true
of_record test rs p r all found =
    ⊎_elim
    (λ (there : (i : ℕ) × (i < length rs) × (record_of rs p ≡ Some (get_or rs i (head 0)))).
    let same : Some (get_or rs there.0 (head 0)) ≡ Some r = sym there.2 ∙ found in
    let is : get_or rs there.0 (head 0) ≡ r = cc in
    subst (λ (x : Record). test x ≡ true) is (every_at test rs there.0 (head 0) all there.1))
    (λ (none : record_of rs p ≡ None).
    let never : Some r ≡ None = sym found ∙ none in
    absurd (let z : ◌≡◌ {A = ℕ} 0 1 = cc in omega arith))
    (record_place rs p)

whole_by : (kind : Kind) (k p g v : ℕ) → Fit k p g → result_by kind k p g v ≡ true → WholeRun k p g v
whole_by kind k p g v fit by =
    let parts = and_parts _ _ by in
    let is = eqb-true v (run_result kind p g k) parts.1 in
    record {
      kind = kind;
      usable = parts.0;
      result = is;
      bernoulli = λ sound. subst (BernoulliMod p k) (sym is) (run_gives_bernoulli kind k p g fit sound parts.0);
    }

-- a residue in a record is the result of a whole run, and so B_k modulo p where the pair is sound
residue_whole : (k p g v : ℕ) → Fit k p g → residue_worked k p g (Some v) ≡ true → WholeRun k p g v
residue_whole k p g v fit worked =
    ⊎_elim (whole_by Direct k p g v fit) (whole_by Doubling k p g v fit) (or_cases _ _ worked)

pub worked_whole : (k : ℕ) (rs : List Record) (p v : ℕ) (r : Record) → every (record_worked k) rs ≡ true → record_of rs p ≡ Some r → r.residue ≡ Some v
    → Fit k r.modulus r.generator → WholeRun k p r.generator v
unfolding record_worked
worked_whole k rs p v r all found has fit =
    let worked : residue_worked k r.modulus r.generator r.residue ≡ true = of_record (record_worked k) rs p r all found in
    subst (λ (m : ℕ). WholeRun k m r.generator v) (record_has rs p r found)
    (residue_whole k r.modulus r.generator v fit (subst (λ (o : Option ℕ). residue_worked k r.modulus r.generator o ≡ true) has worked))

-- what is shown where each residue that is there is of a whole run
shows_each : (k p g : ℕ) (o : Option ℕ) → ((v : ℕ) → o ≡ Some v → WholeRun k p g v) → Shows k p g o
shows_each k p g None each = tt
shows_each k p g (Some v) each = each v refl

pub worked_shows : (k : ℕ) (rs : List Record) (p : ℕ) (r : Record) → every (record_worked k) rs ≡ true → record_of rs p ≡ Some r
    → PairFits k (Some r) → Shows k p r.generator r.residue
worked_shows k rs p r all found fit = shows_each k p r.generator r.residue (λ v has. worked_whole k rs p v r all found has fit)
