-- Worked pairs: small numbers at which the definitions are computed.
-- Assumes nothing.
use Rattle.std.specs.Prelude.{Bool, true, false, not, ◌&&◌, ◌||◌, ◌↔◌, ◌≡◌, List, [], ◌∷◌, ℕ, zero, suc, ◌-◌, ◌*◌, ◌/◌, ◌%◌, ◌^◌, eqb, leb}
use Rattle.std.specs.Bool.{beq}
use Rattle.theory.specs.declared.kind.Kind.TheVariants.{Doubling}
use Rattle.theory.specs.Direct.{direct_result}
use Rattle.theory.specs.Doubling.{row_length_of, row_count, Usable, doubling_sum, doubling_result}
use Rattle.theory.specs.Kinds.{can_run}
use Rattle.theory.specs.Pairs.{Fit, Sound}

-- a pair with an index, and what is expected of it
pub record Worked : Type 0 where
  pub modulus : ℕ
  pub generator : ℕ
  pub index : ℕ
  -- the remainders of the generator's powers meet every number from 1 to p − 1
  pub sound : Bool
  -- the direct result; where doubling is usable its result is the same
  pub result : ℕ
  pub usable : Bool
  -- n' and m'
  pub places : ℕ
  pub rows : ℕ
  -- partial sums of the doubling terms: a number of terms, and their sum
  pub partial : List (ℕ × ℕ)

-- a line of the list below
abbrev pub worked : ℕ → ℕ → ℕ → Bool → ℕ → Bool → ℕ → ℕ → List (ℕ × ℕ) → Worked
worked p g k s r u n m ts =
    record {
      modulus = p;
      generator = g;
      index = k;
      sound = s;
      result = r;
      usable = u;
      places = n;
      rows = m;
      partial = ts;
    }

-- p, g, k; sound; result; doubling usable; n', m'; partial sums
abbrev pub worked_pairs : List Worked
worked_pairs =
    worked 5 2 2 true 1 true 2 1 []
    ∷ worked 7 3 2 true 6 true 3 1 []
    ∷ worked 7 3 4 true 3 true 3 1 []
    ∷ worked 11 2 8 true 4 true 5 1 []
    ∷ worked 13 2 10 true 5 true 6 1 []
    ∷ worked 17 3 2 true 3 true 4 2 ((4, 15) ∷ (8, 2) ∷ [])
    ∷ worked 17 3 8 true 13 false 4 2 []
    ∷ worked 31 3 10 true 9 false 5 3 []
    ∷ worked 31 3 12 true 11 true 5 3 []
    ∷ worked 37 2 32 true 0 true 18 1 []
    ∷ worked 9 2 2 false 0 false 3 1 []
    ∷ []

-- every member of a list passes a test
abbrev pub all : {A : Type 0} → (A → Bool) → List A → Bool
all test [] = true
all test (x ∷ xs) = test x && all test xs

-- some number below n passes a test; every number below n does
abbrev pub some_below : (ℕ → Bool) → ℕ → Bool
some_below test zero = false
some_below test (suc n) = some_below test n || test n

abbrev pub every_below : (ℕ → Bool) → ℕ → Bool
every_below test zero = true
every_below test (suc n) = every_below test n && test n

-- p, g and k are fit
abbrev pub fit_test : ℕ → ℕ → ℕ → Bool
fit_test p g k =
    eqb (p % 2) 1 && leb 5 p && leb p 2147483647 && leb 2 g && leb g (p - 1) && eqb (k % 2) 0 && leb 2 k && leb k (p - 3)

-- the pair is sound
abbrev pub sound_test : ℕ → ℕ → Bool
sound_test p g = every_below (λ x. some_below (λ i. eqb (g ^ suc i % p) (suc x)) (p - 1)) (p - 1)

-- a worked pair is fit, and the definitions give what it says
abbrev pub worked_test : Worked → Bool
worked_test w =
    let p : ℕ = w.modulus in
    let g : ℕ = w.generator in
    let k : ℕ = w.index in
    fit_test p g k
    && beq (sound_test p g) w.sound
    && eqb (direct_result p g k) w.result
    && beq (can_run Doubling p k) w.usable
    && (not w.usable || eqb (doubling_result p g k) w.result)
    && eqb (row_length_of p) w.places
    && eqb (row_count p) w.rows
    && all (λ t. eqb (doubling_sum p g k t.0) t.1) w.partial

-- the group of a point x by p: the eight binary digits of x/p behind the point
abbrev pub eight_digits : ℕ → ℕ → ℕ
eight_digits p x = 256 * x / p

-- every worked pair holds, and the group of 3 by 17 is 45 with the remainder 3
abbrev pub examples_test : Bool
examples_test = all worked_test worked_pairs && eqb (eight_digits 17 3) 45 && eqb (256 * 3 % 17) 3

-- the tests say what they stand for
abbrev pub TestsTold : Type 0
TestsTold =
    (p g k : ℕ)
    → (fit_test p g k ≡ true → Fit k p g)
    × (sound_test p g ≡ true → Sound p g)
    × (sound_test p g ≡ false → ¬ Sound p g)
    × ((can_run Doubling p k ≡ true) ↔ Usable p k)
