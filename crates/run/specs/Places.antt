-- Where a run stands after t terms.
-- Assumes nothing.
use Rattle.std.specs.Prelude.{ℕ, ◌+◌, ◌/◌, ◌%◌}
use Rattle.theory.specs.declared.kind.Kind.{Kind}
use Rattle.theory.specs.declared.kind.Kind.TheVariants.{Direct, Doubling}
use Rattle.theory.specs.Direct.{direct_point, direct_weight}
use Rattle.theory.specs.Doubling.{row_length_of, doubling_point, doubling_weight}
use Rattle.run.specs.declared.progress.DirectPlace.{DirectPlace}
use Rattle.run.specs.declared.progress.DoublingPlace.{DoublingPlace}
use Rattle.run.specs.declared.progress.Progress.{Progress}
use Rattle.run.specs.declared.progress.Progress.TheVariants.{Direct as AtDirect, Doubling as AtDoubling}

abbrev pub kind_of : Progress → Kind
kind_of (AtDirect d) = Direct
kind_of (AtDoubling d) = Doubling

-- the place of a direct run after t terms: the point of its next term, and the weight of the term before it, which is
-- 1 at the start
unfoldable pub direct_place : ℕ → ℕ → ℕ → ℕ → DirectPlace
direct_place p g k t = record { point = direct_point p g (t + 1); weight = direct_weight p g k t }

-- the place of a doubling run at place j of row i: point and weight of the row's first term and of the next term
unfoldable pub row_place : ℕ → ℕ → ℕ → ℕ → ℕ → DoublingPlace
row_place p g k i j = record {
  row_length = row_length_of p;
  place = j;
  row_point = doubling_point p g i 0;
  row_weight = doubling_weight p g k i 0;
  point = doubling_point p g i j;
  weight = doubling_weight p g k i j;
}

-- the progress of a run of index k for the pair (p, g) after t terms
unfoldable pub progress_after : Kind → ℕ → ℕ → ℕ → ℕ → Progress
progress_after Direct p g k t = AtDirect (direct_place p g k t)
progress_after Doubling p g k t = AtDoubling (row_place p g k (t / row_length_of p) (t % row_length_of p))
