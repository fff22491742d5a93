use Rattle.std.proofs.Common.{◌≡◌, ◌+◌, sym, refl, ap, ◌∙◌, arith}
use Rattle.theory.specs.declared.kind.Kind.{Kind}
use Rattle.theory.specs.Kinds.{partial_sum, can_run}
use Rattle.run.specs.Places.{kind_of, progress_after}
use Rattle.run.proofs.Opening.{kind_after}
use Rattle.run.proofs.state.Run.move_on.Goals as goal

pub invariant_of-self : goal.invariant_of-self
invariant_of-self c =
    let run = c.args.self.now in
    let t = run.taken + c.args.terms in
    let kind : kind_of c.args.reached.1 ≡ kind_of run.progress =
    ap kind_of c.requires.reached.1 ∙ kind_after (kind_of run.progress) run.modulus run.generator run.index t in
    record {
      fit = run.fit;
      usable = ap (λ (k : Kind). can_run k run.modulus run.index) kind ∙ run.usable;
      within = omega (arith, c.requires.room, run.within);
      summed = c.requires.reached.0 ∙ ap (λ (k : Kind). partial_sum k run.modulus run.generator run.index t) (sym kind);
      placed = c.requires.reached.1 ∙ ap (λ (k : Kind). progress_after k run.modulus run.generator run.index t) (sym kind);
    }

pub returns : goal.returns
returns c =
    let run = c.args.self.now in
    record {
      stands = record {
        kind_is = ap kind_of c.requires.reached.1 ∙ kind_after (kind_of run.progress) run.modulus run.generator run.index (run.taken + c.args.terms);
        index_is = refl;
        modulus_is = refl;
        generator_is = refl;
        taken_is = refl;
      };
    }
