use Rattle.std.proofs.Common.{ℕ, sym, refl, subst}
use Rattle.theory.specs.Bernoulli.{BernoulliMod}
use Rattle.theory.proofs.EitherKind.{run_gives_bernoulli}
use Rattle.run.proofs.finished.FinishedResidue.residue.Goals as goal

pub returns : goal.returns
returns c =
    let f = c.args.self.now in
    record {
      value = refl;
      result = f.result;
      bernoulli = λ sound.
          subst (λ (r : ℕ). BernoulliMod f.modulus f.index r) (sym f.result)
          (run_gives_bernoulli f.kind f.index f.modulus f.generator f.fit sound f.usable);
    }
