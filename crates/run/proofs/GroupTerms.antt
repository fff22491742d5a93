-- Groups of w terms, and cells that gather their weights, over the width w.
-- Main statements: weighed_deposit, zeroes_made, sign_sum_stretch, stretch_add, counted_none, counted_more, weighed_zeroes,
-- gathering_more, groups_step.
-- Assumes nothing.
use Rattle.std.proofs.Common.{◌≡◌, ℕ, zero, suc, ◌+◌, ◌-◌, ◌*◌, ◌/◌, ◌%◌, ◌^◌, ◌<◌, ◌≤◌, min, ◌≢◌, List, length, get_or, set, replicate, sym, ap, ◌∙◌, subst, ap₂, inl, inr, add-zero, add_assoc, mul-le-mul_right, mod-lt, mod-eq_of_lt, mul-le-mul, one-mul, mul-zero, zero-mul, mul-one, arith, length-set, get_or-set_other, get_or-set_same, pow-add}
use native.Mathlib.Nat.{add-mod, pow-zero, zero-div, zero-mod, div-eq_of_lt, div-eq-sub-div, mod-eq-sub-mod, mod_self}
use native.Mathlib.Decide.{ℕ_discrete, dec_lt}
use Rattle.std.proofs.lemmas.List.{get_or-replicate, get_or_past, length-replicate}
use Rattle.digits.specs.Counts.{capped}
use Rattle.digits.specs.Digits.{digit}
use Rattle.digits.proofs.Digits.{digit_law, group_under}
use Rattle.theory.specs.Residues.{signed}
use Rattle.theory.specs.Sums.{sum}
use Rattle.theory.proofs.Modular.{mul-mod, mul_mod_left, mul_mod_right, mul-signed, signed-mod, sum-mod}
use Rattle.theory.proofs.Sums.{last_or_below, sum_zero, sum_suc, sum_ext, sum-mul, sum_nought, sum_split}
use Rattle.run.specs.Counting.{sign_sum, weighed, groups_of, Counted, Room, Zeroes}
use Rattle.run.specs.Stretches.{stretch}

-- a sum of which one part changes
sum_change : (n c d : ℕ) (f g : ℕ → ℕ) → c < n → g c ≡ f c + d → ((i : ℕ) → i ≢ c → g i ≡ f i) → sum n g ≡ sum n f + d
sum_change zero c d f g below here others = absurd (omega (arith, below))
sum_change (suc n) c d f g below here others =
    sum_suc n g
    ∙ elim (last_or_below below) [
      | inl last ↦
          let a : sum n g ≡ sum n f = sum_ext n g f (λ i h. others i (omega (arith, h, last))) in
          let b : g n ≡ f n + d = subst (λ (m : ℕ). g m ≡ f m + d) last here in
          omega (arith, a, b, sum_suc n f)
      | inr under ↦
          let a : sum n g ≡ sum n f + d = sum_change n c d f g under here others in
          let b : g n ≡ f n = others n (omega (arith, under)) in
          omega (arith, a, b, sum_suc n f)
    ]

-- a weight v more in cell c
pub weighed_deposit : (p r w c v : ℕ) (cells : List ℕ) → c < 2 ^ w → c < length cells
    → weighed p r w (set cells c (get_or cells c 0 + v)) ≡ weighed p r w cells + v * sign_sum p r w c
unfolding weighed
weighed_deposit p r w c v cells inside within =
    sum_change (2 ^ w) c (v * sign_sum p r w c) (λ i. get_or cells i 0 * sign_sum p r w i) (λ i. get_or (set cells c (get_or cells c 0 + v)) i 0 * sign_sum p r w i) inside
    (ap (λ (a : ℕ). a * sign_sum p r w c) (get_or-set_same cells c (get_or cells c 0 + v) 0 within) ∙ omega arith)
    (λ i other. ap (λ (a : ℕ). a * sign_sum p r w i) (get_or-set_other cells c i (get_or cells c 0 + v) 0 other))

-- cells that are all made 0
pub zeroes_made : (n : ℕ) → Zeroes (replicate n 0)
zeroes_made n i =
    elim (dec_lt i n) [
      | yes below ↦ get_or-replicate n i 0 0 below
      | no past ↦ get_or_past (replicate n 0) i 0 (omega (arith, past, length-replicate {A = ℕ} n 0))
    ]

-- empty cells stand for 0
pub weighed_zeroes : (p r w : ℕ) (cells : List ℕ) → Zeroes cells → weighed p r w cells ≡ 0
unfolding weighed
weighed_zeroes p r w cells zeroes =
    sum_nought (2 ^ w) (λ c. get_or cells c 0 * sign_sum p r w c) (λ c _. ap (λ (a : ℕ). a * sign_sum p r w c) (zeroes c) ∙ zero-mul (sign_sum p r w c))

-- a weight times the sign sum of the group of a point is the sum of the group's terms
pub sign_sum_stretch : (p r w x v : ℕ) → 0 < p → v * sign_sum p r w (2 ^ w * x / p) % p ≡ stretch p r x v w % p
unfolding sign_sum stretch
sign_sum_stretch p r w x v positive =
    let c = 2 ^ w * x / p in
    ap (λ (a : ℕ). a % p) (sym (sum-mul w v (λ u. signed p (digit w u c) (r ^ u))))
    ∙ sum-mod w p (λ u. v * signed p (digit w u c) (r ^ u))
    ∙ ap (λ (a : ℕ). a % p)
    (sum_ext w (λ u. v * signed p (digit w u c) (r ^ u) % p) (λ u. signed p (2 * (2 ^ u * x % p) / p) (v * r ^ u))
    (λ u h. mul-signed p (digit w u c) v (r ^ u) positive ∙ ap (λ (d : ℕ). signed p d (v * r ^ u)) (digit_law p w u x positive h)))

-- a stretch in two parts
pub stretch_add : (p r x v a b : ℕ) → 0 < p → stretch p r x v (a + b) ≡ stretch p r x v a + stretch p r (2 ^ a * x % p) (v * r ^ a % p) b
unfolding stretch
stretch_add p r x v a b positive =
    sum_split a b (λ j. signed p (2 * (2 ^ j * x % p) / p) (v * r ^ j))
    ∙ ap (λ (s : ℕ). sum a (λ j. signed p (2 * (2 ^ j * x % p) / p) (v * r ^ j)) + s)
    (sum_ext b (λ j. signed p (2 * (2 ^ (a + j) * x % p) / p) (v * r ^ (a + j))) (λ j. signed p (2 * (2 ^ j * (2 ^ a * x % p) % p) / p) (v * r ^ a % p * r ^ j))
    (λ j _. same j))
  where
    point : (j : ℕ) → 2 ^ (a + j) * x % p ≡ 2 ^ j * (2 ^ a * x % p) % p
    point j = ap (λ (m : ℕ). m % p) (ap (λ (m : ℕ). m * x) (pow-add 2 a j) ∙ omega arith) ∙ sym (mul_mod_right (2 ^ j) (2 ^ a * x) p)

    weight : (j : ℕ) → v * r ^ (a + j) % p ≡ v * r ^ a % p * r ^ j % p
    weight j = ap (λ (m : ℕ). m % p) (ap (λ (m : ℕ). v * m) (pow-add r a j) ∙ omega arith) ∙ sym (mul_mod_left (v * r ^ a) (r ^ j) p)

    same : (j : ℕ) → signed p (2 * (2 ^ (a + j) * x % p) / p) (v * r ^ (a + j)) ≡ signed p (2 * (2 ^ j * (2 ^ a * x % p) % p) / p) (v * r ^ a % p * r ^ j)
    same j =
        ap (λ (m : ℕ). signed p (2 * m / p) (v * r ^ (a + j))) (point j)
        ∙ sym (signed-mod p (2 * (2 ^ j * (2 ^ a * x % p) % p) / p) (v * r ^ (a + j)) positive)
        ∙ ap (signed p (2 * (2 ^ j * (2 ^ a * x % p) % p) / p)) (weight j)
        ∙ signed-mod p (2 * (2 ^ j * (2 ^ a * x % p) % p) / p) (v * r ^ a % p * r ^ j) positive

pub counted_none : (p r w x v : ℕ) (cells : List ℕ) → 0 < p → x < p → v < p → Counted p r w 0 x v x v cells cells
unfolding stretch
counted_none p r w x v cells positive point weight = record {
  point_is = sym (ap (λ (m : ℕ). 2 ^ m * x % p) (mul-zero w) ∙ ap (λ (m : ℕ). m % p) (one-mul x) ∙ mod-eq_of_lt point);
  weight_is = sym (ap (λ (m : ℕ). v * r ^ m % p) (mul-zero w) ∙ ap (λ (m : ℕ). v * m % p) (pow-zero r) ∙ ap (λ (m : ℕ). m % p) (mul-one v) ∙ mod-eq_of_lt weight);
  sum_is =
      ap (λ (m : ℕ). m % p) (sym (add-zero (weighed p r w cells)) ∙ ap (λ (m : ℕ). weighed p r w cells + m) (sym (ap (stretch p r x v) (mul-zero w) ∙ sum_zero (λ j. signed p (2 * (2 ^ j * x % p) / p) (v * r ^ j)))));
}

-- one group more: its weight goes into the cell of its digits
pub counted_more : (p r w n x v x' v' s x'' v'' : ℕ) (before after : List ℕ) → 0 < p → length after ≡ 2 ^ w → Counted p r w n x v x' v' before after
    → s ≡ r ^ w % p → x'' ≡ 2 ^ w * x' % p → v'' ≡ v' * s % p
    → Counted p r w (n + 1) x v x'' v'' before (set after (2 ^ w * x' / p) (get_or after (2 ^ w * x' / p) 0 + v'))
counted_more p r w n x v x' v' s x'' v'' before after positive long counted power point weight =
    let all : w * (n + 1) ≡ w * n + w = omega arith in
    let c = 2 ^ w * x' / p in
    let under : x' < p = subst (λ (m : ℕ). m < p) (sym counted.point_is) (mod-lt (2 ^ (w * n) * x) positive) in
    let inside : c < 2 ^ w = group_under p w x' under in
    record {
      point_is =
          point ∙ ap (λ (m : ℕ). 2 ^ w * m % p) counted.point_is ∙ mul_mod_right (2 ^ w) (2 ^ (w * n) * x) p
          ∙ ap (λ (m : ℕ). m % p) (sym (ap (λ (m : ℕ). 2 ^ m * x) all ∙ ap (λ (m : ℕ). m * x) (pow-add 2 (w * n) w) ∙ omega arith));
      weight_is =
          weight ∙ ap₂ (λ (a b : ℕ). a * b % p) counted.weight_is power ∙ mul-mod (v * r ^ (w * n)) (r ^ w) p
          ∙ ap (λ (m : ℕ). m % p) (sym (ap (λ (m : ℕ). v * r ^ m) all ∙ ap (λ (m : ℕ). v * m) (pow-add r (w * n) w) ∙ omega arith));
      sum_is =
          ap (λ (m : ℕ). m % p) (weighed_deposit p r w c v' after inside (omega (arith, inside, long)))
          ∙ add-mod (weighed p r w after) (v' * sign_sum p r w c) p
          ∙ ap₂ (λ (a b : ℕ). (a + b) % p) counted.sum_is (sign_sum_stretch p r w x' v' positive)
          ∙ sym (add-mod (weighed p r w before + stretch p r x v (w * n)) (stretch p r x' v' w) p)
          ∙ ap (λ (m : ℕ). m % p) (add_assoc (weighed p r w before) (stretch p r x v (w * n)) (stretch p r x' v' w)
          ∙ ap (λ (m : ℕ). weighed p r w before + m)
          (sym (ap (stretch p r x v) all ∙ stretch_add p r x v (w * n) w positive
          ∙ ap₂ (λ (a b : ℕ). stretch p r x v (w * n) + stretch p r a b w) (sym counted.point_is) (sym counted.weight_is))));
    }

-- the cells' room after one weight more
pub room_more : (p n c v : ℕ) (before after : List ℕ) → v ≤ p → c < length after → Room p n before after → Room p (n + 1) before (set after c (get_or after c 0 + v))
room_more p n c v before after small within room i =
    elim (ℕ_discrete i c) [
      | yes same ↦
          let a : get_or (set after c (get_or after c 0 + v)) i 0 ≡ get_or after c 0 + v =
          ap (λ (j : ℕ). get_or (set after c (get_or after c 0 + v)) j 0) same ∙ get_or-set_same after c (get_or after c 0 + v) 0 within in
          let b : get_or after i 0 ≡ get_or after c 0 = ap (λ (j : ℕ). get_or after j 0) same in
          omega (arith, a, b, room i)
      | no other ↦
          let a : get_or (set after c (get_or after c 0 + v)) i 0 ≡ get_or after i 0 = get_or-set_other after c i (get_or after c 0 + v) 0 other in
          omega (arith, a, room i)
    ]

-- after n groups of eight: where the share stands, its cells, and the source, of modulus m, with its count
pub record Gathering (p r n x v x' v' : ℕ) (before after : List ℕ) (m begun count : ℕ) : Type 0 where
  pub counted : Counted p r 8 n x v x' v' before after
  pub room : Room p n before after
  pub long : length after ≡ 256
  pub source_is : m ≡ p
  pub count_is : count ≡ capped (begun + n)

pub gathering_none : (p r x v : ℕ) (cells : List ℕ) (m count : ℕ) → 0 < p → x < p → v < p → length cells ≡ 256 → m ≡ p → count < 2 ^ 63
    → Gathering p r 0 x v x v cells cells m count count
gathering_none p r x v cells m count positive point weight long same bounded = record {
  counted = counted_none p r 8 x v cells positive point weight;
  room = λ i. omega arith;
  long = long;
  source_is = same;
  count_is = omega arith;
}

-- what a deposit asks: the point is below the source's modulus, and no cell runs over
pub deposit_asks : (p r n x v x' v' groups w : ℕ) (before after : List ℕ) (m begun count : ℕ) → 0 < p → Gathering p r n x v x' v' before after m begun count
    → n < groups → w ≤ p → ((i : ℕ) → get_or before i 0 + groups * p < 2 ^ 64) → (x' < m) × ((i : ℕ) → get_or after i 0 + w < 2 ^ 64)
deposit_asks p r n x v x' v' groups w before after m begun count positive at more small room = (
  omega (arith, mod-lt (2 ^ (8 * n) * x) positive, at.counted.point_is, at.source_is),
  λ i. omega (arith, at.room i, room i, mul-le-mul_right {m = n + 1} {n = groups} p (omega (arith, more))),
)

-- one group more
pub gathering_more : (p r n x v x' v' w s x'' v'' : ℕ) (before after after' : List ℕ) (m m' begun count count' : ℕ) → 0 < p
    → Gathering p r n x v x' v' before after m begun count → w ≡ v' → v' < p → s ≡ r ^ 8 % p → v'' ≡ v' * s % p
    → x'' ≡ 256 * x' % m → after' ≡ set after (256 * x' / m) (get_or after (256 * x' / m) 0 + w) → m' ≡ m → count' ≡ capped (count + 1)
    → Gathering p r (n + 1) x v x'' v'' before after' m' begun count'
gathering_more p r n x v x' v' w s x'' v'' before after after' m m' begun count count' positive at same under power weight point cells modulus counts =
    let c = 256 * x' / p in
    let cell : 256 * x' / m ≡ c = ap (λ (j : ℕ). 256 * x' / j) at.source_is in
    let now-cells : after' ≡ set after c (get_or after c 0 + v') =
    cells ∙ ap₂ (λ (j k : ℕ). set after j (get_or after j 0 + k)) cell same in
    let inside : c < 2 ^ 8 = group_under p 8 x' (subst (λ (j : ℕ). j < p) (sym at.counted.point_is) (mod-lt (2 ^ (8 * n) * x) positive)) in
    record {
      counted = subst (λ (cs : List ℕ). Counted p r 8 (n + 1) x v x'' v'' before cs) (sym now-cells)
          (counted_more p r 8 n x v x' v' s x'' v'' before after positive at.long at.counted power (point ∙ ap (λ (j : ℕ). 256 * x' % j) at.source_is) weight);
      room = subst (λ (cs : List ℕ). Room p (n + 1) before cs) (sym now-cells)
          (room_more p n c v' before after (omega (arith, under)) (omega (arith, inside, at.long)) at.room);
      long = ap length now-cells ∙ length-set after c (get_or after c 0 + v') ∙ at.long;
      source_is = modulus ∙ at.source_is;
      count_is = omega (arith, counts, at.count_is);
    }

-- a weight two groups on, by the step of two groups, is that of one group on by the step of one
pub every_other : (m e s ss o e' : ℕ) → o ≡ e * s % m → ss ≡ s * s % m → e' ≡ e * ss % m → e' ≡ o * s % m
every_other m e s ss o e' one two next =
    next ∙ ap (λ (j : ℕ). e * j % m) two ∙ mul_mod_right e (s * s) m ∙ ap (λ (j : ℕ). j % m) (omega arith)
    ∙ sym (ap (λ (j : ℕ). j * s % m) one ∙ mul_mod_left (e * s) s m)

-- the groups of a share, stretch by stretch

pub groups_none : (w n j : ℕ) → groups_of w n j 0 ≡ 0
unfolding groups_of
groups_none w n j =
    let empty : 0 - (n - j) ≡ 0 = omega arith in
    let a : min 0 (n - j) ≡ 0 = omega arith in
    ap₂ (λ (m k : ℕ). m / w + k / n * (n / w) + k % n / w) a empty
    ∙ ap₂ (λ (m k : ℕ). m + k * (n / w) + 0 % n / w) (zero-div w) (zero-div n)
    ∙ ap (λ (m : ℕ). 0 + m + 0 % n / w) (zero-mul (n / w))
    ∙ ap (λ (m : ℕ). 0 + 0 + m / w) (zero-mod n)
    ∙ ap (λ (m : ℕ). 0 + 0 + m) (zero-div w)

-- what is left of the row, and then the share from the beginning of a row
groups_rest : (w n c : ℕ) → 0 < n → c / n * (n / w) + c % n / w ≡ groups_of w n 0 c
unfolding groups_of
groups_rest w n c positive =
    elim (dec_lt c n) [
      | yes below ↦
          let rest : c - (n - 0) ≡ 0 = omega arith in
          let least : min c (n - 0) ≡ c = omega arith in
          ap₂ (λ (m k : ℕ). m * (n / w) + k / w) (div-eq_of_lt below) (mod-eq_of_lt below)
          ∙ ap (λ (m : ℕ). m + c / w) (zero-mul (n / w))
          ∙ sym (ap₂ (λ (m k : ℕ). m / w + k / n * (n / w) + k % n / w) least rest
          ∙ ap₂ (λ (m k : ℕ). c / w + m * (n / w) + k / w) (zero-div n) (zero-mod n)
          ∙ ap₂ (λ (m k : ℕ). c / w + m + k) (zero-mul (n / w)) (zero-div w)
          ∙ omega arith)
      | no above ↦
          let whole : n ≤ c = omega (arith, above) in
          let rest : c - (n - 0) ≡ c - n = omega arith in
          let least : min c (n - 0) ≡ n = omega arith in
          ap₂ (λ (m k : ℕ). m * (n / w) + k / w) (div-eq-sub-div positive whole) (mod-eq-sub-mod whole)
          ∙ omega arith
          ∙ sym (ap₂ (λ (m k : ℕ). m / w + k / n * (n / w) + k % n / w) least rest)
    ]

pub groups_step : (w n j c s : ℕ) → j < n → s ≡ min c (n - j) → groups_of w n j c ≡ s / w + groups_of w n ((j + s) % n) (c - s)
unfolding groups_of
groups_step w n j c s inside least =
    elim (dec_lt (n - j) c) [
      | yes over ↦
          let all : s ≡ n - j = omega arith in
          let turned : (j + s) % n ≡ 0 = ap (λ (m : ℕ). m % n) (omega arith) ∙ mod_self n in
          let same : c - s ≡ c - (n - j) = omega arith in
          ap (λ (m : ℕ). m / w + (c - (n - j)) / n * (n / w) + (c - (n - j)) % n / w) (sym least)
          ∙ add_assoc (s / w) ((c - (n - j)) / n * (n / w)) ((c - (n - j)) % n / w)
          ∙ ap (λ (m : ℕ). s / w + m)
          (groups_rest w n (c - (n - j)) (omega arith) ∙ ap₂ (groups_of w n) (sym turned) (sym same))
      | no within ↦
          let all : s ≡ c = omega (arith, within) in
          let none : c - s ≡ 0 = omega arith in
          let rest : c - (n - j) ≡ 0 = omega (arith, within) in
          ap₂ (λ (m k : ℕ). m / w + k / n * (n / w) + k % n / w) (sym least) rest
          ∙ ap₂ (λ (m k : ℕ). s / w + m * (n / w) + k / w) (zero-div n) (zero-mod n)
          ∙ ap₂ (λ (m k : ℕ). s / w + m + k) (zero-mul (n / w)) (zero-div w)
          ∙ omega arith
          ∙ ap (λ (m : ℕ). s / w + m) (sym (ap (groups_of w n ((j + s) % n)) none ∙ groups_none w n ((j + s) % n)))
    ]

-- a counted share while it is worked: `done` of its groups are counted, of `total`, and `left` of its terms are left
pub record Tally (p n place left share total : ℕ) (cells : List ℕ) (m begun count done : ℕ) : Type 0 where
  pub long : length cells ≡ 256
  pub source_is : m ≡ p
  pub count_is : count ≡ capped (begun + done)
  pub whole : done + groups_of 8 n place left ≡ total
  pub few : 8 * done + left ≤ share
  pub room : (i : ℕ) → get_or cells i 0 ≤ done * p

pub tally_none : (p n place share : ℕ) (cells : List ℕ) (m count : ℕ) → length cells ≡ 256 → m ≡ p → count < 2 ^ 63 → Zeroes cells
    → Tally p n place share share (groups_of 8 n place share) cells m count count 0
tally_none p n place share cells m count long same bounded zeroes = record {
  long = long;
  source_is = same;
  count_is = omega arith;
  whole = omega arith;
  few = omega arith;
  room = λ i. omega (arith, zeroes i);
}

-- the cells have room for the groups of one stretch more
pub tally_room : (p n place left share total stretch : ℕ) (cells : List ℕ) (m begun count done : ℕ) → Tally p n place left share total cells m begun count done
    → p ≤ 2147483647 → share ≤ 1048576 → stretch ≤ left → (i : ℕ) → get_or cells i 0 + stretch / 8 * p < 2 ^ 64
tally_room p n place left share total stretch cells m begun count done tally small short within i =
    let few : done + stretch / 8 ≤ 131072 = omega (arith, tally.few) in
    let bound : (done + stretch / 8) * p ≤ 131072 * 2147483647 = mul-le-mul few small in
    omega (arith, tally.room i)

-- one stretch more
pub tally_more : (p n place left share total stretch : ℕ) (cells cells' : List ℕ) (m m' begun count count' done place' : ℕ) → Tally p n place left share total cells m begun count done
    → place < n → stretch ≡ min left (n - place) → place' ≡ (place + stretch) % n → length cells' ≡ length cells → m' ≡ m
    → count' ≡ capped (count + stretch / 8) → Room p (stretch / 8) cells cells'
    → Tally p n place' (left - stretch) share total cells' m' begun count' (done + stretch / 8)
tally_more p n place left share total stretch cells cells' m m' begun count count' done place' tally inside least turned long same counts room = record {
  long = long ∙ tally.long;
  source_is = same ∙ tally.source_is;
  count_is = omega (arith, counts, tally.count_is);
  whole = omega (arith, tally.whole, groups_step 8 n place left stretch inside least, ap (λ (j : ℕ). groups_of 8 n j (left - stretch)) turned);
  few = omega (arith, tally.few, least);
  room = λ i. omega (arith, tally.room i, room i);
}
