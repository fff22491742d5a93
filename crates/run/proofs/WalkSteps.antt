-- A walk over the rows of a doubling run: where it begins, and its steps.
-- Main statements: place_of, walk_begun, walk_on, walk_turned, walk_ended.
-- Assumes nothing.
use Rattle.std.proofs.Common.{◌≡◌, ℕ, ◌+◌, ◌-◌, ◌*◌, ◌/◌, ◌%◌, ◌^◌, ◌<◌, ◌≤◌, sym, ap, ◌∙◌, subst, ap₂, add-zero, mod-lt, mod-eq_of_lt, arith}
use native.Mathlib.Nat.{mod-add-div}
use lib.Arith.{digits_div}
use Rattle.theory.specs.declared.kind.Kind.{Kind}
use Rattle.theory.specs.declared.kind.Kind.TheVariants.{Doubling}
use Rattle.theory.specs.Doubling.{row_length_of, doubling_point, doubling_weight, doubling_sum}
use Rattle.theory.specs.Kinds.{partial_sum}
use Rattle.theory.specs.Pairs.{FitModulus}
use Rattle.theory.proofs.Modular.{doubling_point_places, doubling_point_row, doubling_point_under, doubling_weight_row, doubling_weight_under, doubling_sum_under}
use Rattle.run.specs.declared.progress.DoublingPlace.{DoublingPlace}
use Rattle.run.specs.declared.progress.Progress.{Progress}
use Rattle.run.specs.declared.progress.Progress.TheVariants.{Doubling as AtDoubling}
use Rattle.run.specs.declared.state.Run.{Run}
use Rattle.run.specs.Places.{kind_of, row_place, progress_after}
use Rattle.run.specs.Reached.{Reached}
use Rattle.run.specs.Walks.{InRow, Walking}
use Rattle.run.proofs.RowTerms.{rows_have_places, row_of, weight_places}

doubling_at : (d e : DoublingPlace) → AtDoubling d ≡ AtDoubling e → d ≡ e
doubling_at d e same = cc

-- the place of a run that is doubling
pub place_of : (run : Run) (d : DoublingPlace) → run.progress ≡ AtDoubling d
    → d ≡ row_place run.modulus run.generator run.index (run.taken / row_length_of run.modulus) (run.taken % row_length_of run.modulus)
unfolding progress_after
place_of run d place =
    doubling_at d (row_place run.modulus run.generator run.index (run.taken / row_length_of run.modulus) (run.taken % row_length_of run.modulus))
    (sym place ∙ run.placed ∙ ap (λ (k : Kind). progress_after k run.modulus run.generator run.index run.taken) (ap kind_of place))

-- the length of its rows
pub length_of : (run : Run) (d : DoublingPlace) → run.progress ≡ AtDoubling d → d.row_length ≡ row_length_of run.modulus
unfolding row_place
length_of run d place = ap (λ (e : DoublingPlace). e.row_length) (place_of run d place)

-- the place of its next term in its row
pub inside_of : (run : Run) (d : DoublingPlace) → run.progress ≡ AtDoubling d → d.place < row_length_of run.modulus
unfolding row_place
inside_of run d place =
    let under : run.taken % row_length_of run.modulus < row_length_of run.modulus = mod-lt run.taken (rows_have_places run.modulus run.fit.0) in
    omega (arith, under, ap (λ (e : DoublingPlace). e.place) (place_of run d place))

pub sum_of : (run : Run) (d : DoublingPlace) → run.progress ≡ AtDoubling d → run.sum ≡ doubling_sum run.modulus run.generator run.index run.taken
unfolding partial_sum
sum_of run d place =
    run.summed ∙ ap (λ (k : Kind). partial_sum k run.modulus run.generator run.index run.taken) (ap kind_of place)

-- where n terms more take a run that is doubling
pub reached_by : (run : Run) (d : DoublingPlace) (t n s : ℕ) (q : Progress) → run.progress ≡ AtDoubling d → t ≡ run.taken + n
    → s ≡ doubling_sum run.modulus run.generator run.index t → q ≡ progress_after Doubling run.modulus run.generator run.index t
    → Reached run n (s, q)
unfolding partial_sum
reached_by run d t n s q place all summed placed =
    let kind : kind_of run.progress ≡ Doubling = ap kind_of place in
    rw (kind, ← all) (summed, placed)

pub brought : (m p w x : ℕ) → m ≡ p → w < p → x ≡ w % m → x ≡ w
brought m p w x same under bring = bring ∙ ap (λ (n : ℕ). w % n) same ∙ mod-eq_of_lt under

module _ (p g k : ℕ) (fit : FitModulus p) where
  -- the row follows from the terms taken and the place
  pub walking_in : {t j row_point row_weight point weight : ℕ} (i : ℕ) → InRow p g k i t j row_point row_weight point weight
      → Walking p g k t j row_point row_weight point weight
  walking_in {t} {j} {row_point} {row_weight} {point} {weight} i at =
      let n = row_length_of p in
      let before : t - j ≡ i * n + 0 = omega (arith, at.taken_is) in
      let row : (t - j) / n ≡ i = ap (λ (m : ℕ). m / n) before ∙ digits_div i (rows_have_places p fit) in
      subst (λ (h : ℕ). InRow p g k h t j row_point row_weight point weight) (sym row) at

  -- the next point is below p
  pub point_under : {t j row_point row_weight point weight : ℕ} → Walking p g k t j row_point row_weight point weight → point < p
  point_under {t} {j} at = omega (arith, at.point_is, doubling_point_under p g ((t - j) / row_length_of p) j (omega (arith, fit.1)))

  pub row_point_under : {t j row_point row_weight point weight : ℕ} → Walking p g k t j row_point row_weight point weight → row_point < p
  row_point_under {t} {j} at = omega (arith, at.row_point_is, doubling_point_under p g ((t - j) / row_length_of p) 0 (omega (arith, fit.1)))

  -- n terms on in the row
  pub walk_on : {t j row_point row_weight point weight : ℕ} (n r point' weight' : ℕ) → Walking p g k t j row_point row_weight point weight
      → r ≡ 2 ^ (k - 1) % p → j + n ≤ row_length_of p → point' ≡ 2 ^ n * point % p → weight' ≡ weight * r ^ n % p
      → Walking p g k (t + n) (j + n) row_point row_weight point' weight'
  walk_on {t} {j} n r point' weight' at ratio room point-is weight-is =
      let i = (t - j) / row_length_of p in
      walking_in i (record {
        taken_is = omega (arith, at.taken_is);
        within = room;
        row_point_is = at.row_point_is;
        row_weight_is = at.row_weight_is;
        point_is = point-is ∙ ap (λ (m : ℕ). 2 ^ n * m % p) at.point_is ∙ sym (doubling_point_places p g i j n);
        weight_is = weight-is ∙ ap₂ (λ (a b : ℕ). a * b ^ n % p) at.weight_is ratio ∙ sym (weight_places p g k i j n);
      })

  -- the first place of the next row
  pub walk_turned : {t j row_point row_weight point weight : ℕ} (stride row_point' row_weight' : ℕ) → Walking p g k t j row_point row_weight point weight
      → stride ≡ g ^ (k - 1) % p → j ≡ row_length_of p → row_point' ≡ g * row_point % p → row_weight' ≡ row_weight * stride % p
      → Walking p g k t 0 row_point' row_weight' row_point' row_weight'
  walk_turned {t} {j} stride row_point' row_weight' at power end row_point-is row_weight-is =
      let i = (t - j) / row_length_of p in
      let x : row_point' ≡ doubling_point p g (i + 1) 0 =
      row_point-is ∙ ap (λ (m : ℕ). g * m % p) at.row_point_is ∙ sym (doubling_point_row p g i 0) in
      let v : row_weight' ≡ doubling_weight p g k (i + 1) 0 =
      row_weight-is ∙ ap₂ (λ (a b : ℕ). a * b % p) at.row_weight_is power ∙ sym (doubling_weight_row p g k i 0) in
      walking_in (i + 1) (record {
        taken_is = omega (arith, end, at.taken_is);
        within = omega arith;
        row_point_is = x;
        row_weight_is = v;
        point_is = x;
        weight_is = v;
      })

  -- a place inside a row, taken out again
  pub walk_ended : {t j row_point row_weight point weight : ℕ} (n row own : ℕ) → Walking p g k t j row_point row_weight point weight
      → j < row_length_of p → n ≡ row_length_of p → row ≡ row_weight → own ≡ weight
      → AtDoubling (record { row_length = n; place = j; row_point = row_point; row_weight = row; point = point; weight = own })
      ≡ progress_after Doubling p g k t
  unfolding progress_after row_place
  walk_ended {t} {j} n row own at within length row-is own-is =
      let here = row_of (row_length_of p) ((t - j) / row_length_of p) j t at.taken_is within in
      let i-is = here.0 in
      let j-is = here.1 in
      let a = at.row_point_is in
      let b = row-is ∙ at.row_weight_is in
      let x = at.point_is in
      let v = own-is ∙ at.weight_is in
      cc

-- the place of a run, brought into an arithmetic of modulus m
pub walk_begun : (run : Run) (d : DoublingPlace) (m row_weight weight : ℕ) → run.progress ≡ AtDoubling d → m ≡ run.modulus
    → row_weight ≡ d.row_weight % m → weight ≡ d.weight % m
    → Walking run.modulus run.generator run.index run.taken d.place d.row_point row_weight d.point weight
unfolding row_place
walk_begun run d m row_weight weight place same row own =
    let p = run.modulus in
    let g = run.generator in
    let k = run.index in
    let n = row_length_of p in
    let i = run.taken / n in
    let j = run.taken % n in
    let at = place_of run d place in
    let positive : 0 < p = omega (arith, run.fit.0.1) in
    let here : d.place ≡ j = ap (λ (e : DoublingPlace). e.place) at in
    let row-is : d.row_weight ≡ doubling_weight p g k i 0 = ap (λ (e : DoublingPlace). e.row_weight) at in
    let own-is : d.weight ≡ doubling_weight p g k i j = ap (λ (e : DoublingPlace). e.weight) at in
    walking_in p g k run.fit.0 i (record {
      taken_is = omega (arith, mod-add-div run.taken n, here);
      within = omega (arith, inside_of run d place);
      row_point_is = ap (λ (e : DoublingPlace). e.row_point) at;
      row_weight_is = brought m p (doubling_weight p g k i 0) row_weight same (doubling_weight_under p g k i 0 positive) (row ∙ ap (λ (n : ℕ). n % m) row-is);
      point_is = ap (λ (e : DoublingPlace). e.point) at ∙ ap (doubling_point p g i) (sym here);
      weight_is =
          brought m p (doubling_weight p g k i j) weight same (doubling_weight_under p g k i j positive) (own ∙ ap (λ (n : ℕ). n % m) own-is)
          ∙ ap (doubling_weight p g k i) (sym here);
    })

-- a share while it is worked: t terms are taken, the next is at place j of its row, `left` of the share's terms are left,
-- `all` terms of the run are taken in the end, and c counts beside the sum s
pub record Working (p g k t j s left all c : ℕ) : Type 0 where
  pub inside : j < row_length_of p
  pub whole : t + left ≡ all
  pub summed : (s + c) % p ≡ doubling_sum p g k t

-- a sum that is below p and beside which nothing counts
pub summed_alone : (p g k t s : ℕ) → s < p → (s + 0) % p ≡ doubling_sum p g k t → s ≡ doubling_sum p g k t
summed_alone p g k t s under summed = sym (ap (λ (n : ℕ). n % p) (add-zero s) ∙ mod-eq_of_lt under) ∙ summed

pub alone_summed : (p g k t s : ℕ) → 0 < p → s ≡ doubling_sum p g k t → (s + 0) % p ≡ doubling_sum p g k t
alone_summed p g k t s positive summed =
    ap (λ (n : ℕ). n % p) (add-zero s ∙ summed) ∙ mod-eq_of_lt (doubling_sum_under p g k t positive)
