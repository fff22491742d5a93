use Rattle.std.proofs.Common.{◌≡◌, ℕ, ◌-◌, ◌*◌, ◌%◌, ◌^◌, ap, ◌∙◌}
use Rattle.theory.proofs.Modular.{pow-mod}
use Rattle.run.proofs.rows.Rows.new.Goals as goal

-- a power of a number that is brought in, in a modulus m that is p
brought_power : (m p a n x y : ℕ) → m ≡ p → x ≡ a % m → y ≡ x ^ n % m → y ≡ a ^ n % p
brought_power m p a n x y same base power =
    power ∙ ap (λ (i : ℕ). i ^ n % m) base ∙ pow-mod a n m ∙ ap (λ (i : ℕ). a ^ n % i) same

pub invariant_of-result : goal.invariant_of-result
invariant_of-result g c =
    let run = c.args.share.now.run.now in
    let residue = g.W.Arithmetic.residue c.args.share.now.arithmetic.now in
    let same = c.args.share.now.same in
    record {
      fit = run.fit;
      same = same;
      length_is = c.requires.length;
      factor_is = c.new.ensures.factor;
      modulus_is = c.new.ensures.modulus;
      stride_is = brought_power _ run.modulus run.generator (run.index - 1) _ _ same c.bring_in-2.ensures.value c.raise.ensures.value;
      ratio_is = brought_power _ run.modulus 2 (run.index - 1) _ _ same c.bring_in.ensures.value c.raise-ratio.ensures.value;
      eighth_is = c.raise-eighth.ensures.value ∙ ap (λ (m : ℕ). residue c.raise-ratio.result ^ 8 % m) same;
      sixteenth_is = c.mul.ensures.value ∙ ap (λ (m : ℕ). residue c.raise-eighth.result * residue c.raise-eighth.result % m) same;
    }
