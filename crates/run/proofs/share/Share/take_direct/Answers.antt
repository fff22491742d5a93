use Rattle.std.proofs.Common.{◌≡◌, ℕ, ◌+◌, ◌-◌, ◌*◌, ◌/◌, ◌%◌, ◌^◌, ◌<◌, sym, ap, ◌∙◌, add-zero, add_assoc, arith}
use Rattle.theory.specs.declared.kind.Kind.TheVariants.{Direct}
use Rattle.theory.specs.Direct.{half_below, direct_point}
use Rattle.theory.specs.Kinds.{partial_sum}
use Rattle.theory.proofs.Modular.{pow-mod, direct_point_under}
use Rattle.run.specs.declared.progress.DirectPlace.{DirectPlace}
use Rattle.run.specs.declared.progress.Progress.TheVariants.{Direct as AtDirect}
use Rattle.run.specs.declared.state.Run.{Run}
use Rattle.run.specs.Places.{kind_of, progress_after}
use Rattle.run.proofs.DirectTerms.{Standing, standing_from_progress, term_worked, progress_from_standing, sum_from_standing, half_below_residue}
use Rattle.run.proofs.share.Share.take_direct.Goals as goal

-- a run that is direct, brought into an arithmetic of modulus m
begun : (run : Run) (m : ℕ) (d : DirectPlace) (s v' : ℕ) → m ≡ run.modulus → run.progress ≡ AtDirect d → s ≡ run.sum % m → v' ≡ d.weight % m
    → Standing m run.generator run.index (run.taken + 0) s d.point v'
begun run m d s v' same place sum weight =
    let kind = ap kind_of place in
    let summed : run.sum ≡ partial_sum Direct m run.generator run.index run.taken =
    run.summed ∙ ap (λ k. partial_sum k run.modulus run.generator run.index run.taken) kind
    ∙ ap (λ (n : ℕ). partial_sum Direct n run.generator run.index run.taken) (sym same) in
    let placed : AtDirect d ≡ progress_after Direct m run.generator run.index run.taken =
    sym place ∙ run.placed ∙ ap (λ k. progress_after k run.modulus run.generator run.index run.taken) kind
    ∙ ap (λ (n : ℕ). progress_after Direct n run.generator run.index run.taken) (sym same) in
    let at = standing_from_progress m run.generator run.index run.taken run.sum d.point d.weight (omega (arith, run.fit.0.1)) summed placed in
    rw (add-zero, sum, weight) at

pub loop-i-init : goal.loop-i-init
loop-i-init g c =
    begun c.args.self.now.run.now _ c.args.from _ _ c.args.self.now.same c.requires.place c.bring_in-sum.ensures.value c.bring_in-weight.ensures.value

pub times-quotient-requires : goal.times-quotient-requires
times-quotient-requires g c =
    let w = g.W.Arithmetic in
    let a = c.args.self.now.arithmetic.now in
    let t = c.args.self.now.run.now.taken + c.loop-i._i in
    let positive : 0 < w.modulus a = omega (arith, c.args.self.now.same, c.args.self.now.run.now.fit.0.1) in
    let under : direct_point (w.modulus a) c.args.self.now.run.now.generator (t + 1) < w.modulus a =
    direct_point_under (w.modulus a) c.args.self.now.run.now.generator (t + 1) positive in
    record { below = omega (arith, under, c.loop-i.invariant.point_is, c.new-generator.ensures.modulus, c.args.self.now.same) }

pub loop-i-preserved : goal.loop-i-preserved
loop-i-preserved g c =
    let w = g.W.Arithmetic in
    let a = c.args.self.now.arithmetic.now in
    let m = w.modulus a in
    let run = c.args.self.now.run.now in
    let same = c.args.self.now.same in
    let factor = c.new-generator.ensures.factor in
    let modulus = c.new-generator.ensures.modulus in
    let quotient = c.times-quotient.ensures.quotient in
    let remainder = c.times-quotient.ensures.remainder in
    let odd : m % 2 ≡ 1 = ap (λ (n : ℕ). n % 2) same ∙ run.fit.0.0 in
    let half : w.residue a c.mul-half_below.result ≡ half_below m run.generator % m =
    c.mul-half_below.ensures.value
    ∙ ap (λ (n : ℕ). n * w.residue a c.bring_in-half.result % m) c.bring_in.ensures.value
    ∙ ap (λ (n : ℕ). (run.generator - 1) % m * n % m) (c.bring_in-half.ensures.value ∙ ap (λ (n : ℕ). (n / 2 + 1) % m) (sym same))
    ∙ half_below_residue m run.generator odd in
    let stride : w.residue a c.raise-stride.result ≡ run.generator ^ (run.index - 1) % m =
    c.raise-stride.ensures.value ∙ ap (λ (n : ℕ). n ^ (run.index - 1) % m) c.bring_in-2.ensures.value ∙ pow-mod run.generator (run.index - 1) m in
    let further = term_worked m run.generator run.index (run.taken + c.loop-i._i)
    (w.residue a c.loop-i.sum) c.loop-i.point (w.residue a c.loop-i.weight)
    (w.residue a c.mul-half_below.result) (w.residue a c.raise-stride.result)
    c.times-quotient.result.0 c.times-quotient.result.1 (w.residue a c.mul-weight.result)
    (w.residue a c.bring_in-in-loop-i.result) (w.residue a c.sub-factor.result) (w.residue a c.mul.result) (w.residue a c.add-sum.result)
    c.loop-i.invariant half stride (cc) (cc)
    c.mul-weight.ensures.value c.bring_in-in-loop-i.ensures.value c.sub-factor.ensures.value c.mul.ensures.value c.add-sum.ensures.value in
    rw (← add_assoc) further

-- where the arithmetic's modulus is the run's
ended : (run : Run) (m t n s x v s' v' : ℕ) → m ≡ run.modulus → kind_of run.progress ≡ Direct → n ≡ t → s' ≡ s → v' ≡ v
    → Standing m run.generator run.index n s x v
    → (s' ≡ partial_sum (kind_of run.progress) run.modulus run.generator run.index t)
    × (AtDirect (record { point = x; weight = v' }) ≡ progress_after (kind_of run.progress) run.modulus run.generator run.index t)
ended run m t n s x v s' v' same kind terms sum weight at =
    rw (kind, sum, weight, ← same, ← terms)
    (sum_from_standing m run.generator run.index n s x v at, progress_from_standing m run.generator run.index n s x v at)

pub returns : goal.returns
returns g c =
    let w = g.W.Arithmetic in
    let a = c.args.self.now.arithmetic.now in
    let run = c.args.self.now.run.now in
    let all : run.taken + c.loop-i._i ≡ run.taken + c.args.self.now.terms = omega (arith, c.loop-i-test.false, c.loop-i.auto._i-end) in
    let kept = ended run (w.modulus a) (run.taken + c.args.self.now.terms) (run.taken + c.loop-i._i)
    (w.residue a c.loop-i.sum) c.loop-i.point (w.residue a c.loop-i.weight) c.take_out-2.result c.take_out.result
    c.args.self.now.same (ap kind_of c.requires.place) all c.take_out-2.ensures.value c.take_out.ensures.value c.loop-i.invariant in
    record { reached = kept }
