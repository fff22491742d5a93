use Rattle.std.proofs.Common.{◌≡◌, ℕ, ◌*◌, ◌%◌, ◌^◌, sym, ap, ◌∙◌, arith}
use Rattle.theory.specs.declared.kind.Kind.{Kind}
use Rattle.theory.specs.declared.kind.Kind.TheVariants.{Direct, Doubling}
use Rattle.theory.specs.Direct.{terms_of, direct_result}
use Rattle.theory.specs.Doubling.{doubling_result}
use Rattle.theory.specs.Kinds.{partial_sum, run_result}
use Rattle.theory.specs.Residues.{minus, inverse}
use Rattle.run.specs.declared.state.Run.{Run}
use Rattle.run.specs.Calls.{left_of}
use Rattle.run.specs.Places.{kind_of}
use Rattle.run.proofs.state.Run.result.Goals as goal

-- the sum of a run whose terms are all taken, by its kind
whole_sum : (run : Run) (kind : Kind) → kind ≡ kind_of run.progress → left_of run ≡ 0
    → run.sum ≡ partial_sum kind run.modulus run.generator run.index (terms_of run.modulus)
whole_sum run kind same none =
    let all : run.taken ≡ terms_of run.modulus = omega (arith, run.within, none) in
    run.summed
    ∙ ap (λ (k : Kind). partial_sum k run.modulus run.generator run.index run.taken) (sym same)
    ∙ ap (partial_sum kind run.modulus run.generator run.index) all

direct_whole : (m p g k s r : ℕ) → m ≡ p → s ≡ partial_sum Direct p g k (terms_of p)
    → r ≡ 2 * k * s * inverse m (minus m 1 (g ^ k)) % m → r ≡ run_result Direct p g k
unfolding partial_sum run_result direct_result
direct_whole m p g k s r same sum worked =
    worked ∙ ap (λ (n : ℕ). 2 * k * s * inverse n (minus n 1 (g ^ k)) % n) same
    ∙ ap (λ (n : ℕ). 2 * k * n * inverse p (minus p 1 (g ^ k)) % p) sum

doubling_whole : (m p g k s r : ℕ) → m ≡ p → s ≡ partial_sum Doubling p g k (terms_of p)
    → r ≡ k * s * inverse m (2 * minus m (inverse m (2 ^ k)) 1) % m → r ≡ run_result Doubling p g k
unfolding partial_sum run_result doubling_result
doubling_whole m p g k s r same sum worked =
    worked ∙ ap (λ (n : ℕ). k * s * inverse n (2 * minus n (inverse n (2 ^ k)) 1) % n) same
    ∙ ap (λ (n : ℕ). k * n * inverse p (2 * minus p (inverse p (2 ^ k)) 1) % p) sum

pub returns-in-Direct : goal.returns-in-Direct
returns-in-Direct g c =
    let run = c.args.self.now in
    let kind = c.in-Direct.ensures.value in
    record {
      value =
          direct_whole _ run.modulus run.generator run.index run.sum c.direct_result.result
          c.requires.same (whole_sum run Direct kind c.requires.whole) c.direct_result.ensures.value
          ∙ ap (λ (k : Kind). run_result k run.modulus run.generator run.index) kind;
    }

pub returns-in-Doubling : goal.returns-in-Doubling
returns-in-Doubling g c =
    let run = c.args.self.now in
    let kind = c.in-Doubling.ensures.value in
    record {
      value =
          doubling_whole _ run.modulus run.generator run.index run.sum c.doubling_result.result
          c.requires.same (whole_sum run Doubling kind c.requires.whole) c.doubling_result.ensures.value
          ∙ ap (λ (k : Kind). run_result k run.modulus run.generator run.index) kind;
    }
