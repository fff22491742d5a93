-- The law of a session: what each call is answered, whatever the calls before it were.
-- Assumes nothing.
use Rattle.std.specs.Prelude.{◌≡◌, ℕ, ◌-◌, ◌<◌, min, Bool, true, false, not, ◌↔◌, List, [], ◌∷◌, ◌++◌, length, is_some, Some, None, Option, ◌==◌, nat_le, nat_lt}
use Rattle.theory.specs.declared.kind.Kind.{Kind}
use Rattle.theory.specs.Bernoulli.{BernoulliMod}
use Rattle.theory.specs.Direct.{terms_of}
use Rattle.theory.specs.Kinds.{can_run, partial_sum, run_result}
use Rattle.theory.specs.Pairs.{Fit, Sound}
use Rattle.arithmetic.specs.declared.refusal.Refusal.{Refusal}
use Rattle.arithmetic.specs.declared.refusal.Refusal.TheVariants.{ListingFull, AlreadyListed, OtherGenerator, OtherIndex, NotListed, AlreadyFilled, NotUsable, CellCount, OtherArithmetic, OtherSource, Share, DirectRun, NoTermLeft, TermsLeft}
use Rattle.arithmetic.specs.Causes.{first_cause, index_causes, pair_causes}
use Rattle.run.specs.Calls.{unfit_share}
use Rattle.run.specs.CountingOn.{is_direct}
use Rattle.session.specs.declared.answer.Answer.{Answer}
use Rattle.session.specs.declared.answer.Answer.TheVariants.{Done, Opened, Share as Shared, Finished, Told, Filled, Shown, Refused, NotMade}
use Rattle.session.specs.declared.answer.Outcome.{Outcome}
use Rattle.session.specs.Events.{Deed, Begin, Enter, Open, CarryOn, CountOn, Finish, Tell, Fill, FillWith, Show, begins, enters_pair, names, refusal_in}
use Rattle.session.specs.Histories.{History, history, Among, index, generator_listed, listed_count, openings, run_opened, reported, given, residue_filled, run_modulus, run_left, is_open, is_unspent}

-- a call is made: one on a run while that is open, and a fill while what finishing the run gave is not filled in
abbrev pub made : History → Deed → Bool
made h (Begin k) = true
made h (Enter p g) = true
made h (Open kind p) = true
made h (CarryOn r m c) = is_open h r
made h (CountOn r n m s c) = is_open h r
made h (Finish r m) = is_open h r
made h (Tell r) = is_open h r
made h (Fill r) = is_unspent h r
made h (FillWith o) = true
made h (Show p) = true

abbrev pub is_listed : History → ℕ → Bool
is_listed h p = is_some (generator_listed h p)

abbrev pub is_filled : History → ℕ → Bool
is_filled h p = is_some (residue_filled h p)

-- no other generator than g is listed
abbrev pub agrees : Option ℕ → ℕ → Bool
agrees None g = true
agrees (Some x) g = x == g

-- a direct run
abbrev pub directly : Option (Kind × ℕ) → Bool
directly None = false
directly (Some run) = is_direct run.0

-- why a finished residue is refused
abbrev pub residue_causes : History → Option Outcome → List (Bool × Refusal)
residue_causes h None = []
residue_causes h (Some o) =
    (not (o.index == index h), OtherIndex)
    ∷ (not (is_listed h o.modulus), NotListed)
    ∷ (not (agrees (generator_listed h o.modulus) o.generator), OtherGenerator)
    ∷ (is_filled h o.modulus, AlreadyFilled)
    ∷ []

-- why a call is refused, in the order in which the causes are tried
abbrev pub causes : History → Deed → List (Bool × Refusal)
causes h (Begin k) = index_causes k
causes h (Enter p g) =
    pair_causes (index h) p g ++ (nat_le 1023 (listed_count h), ListingFull) ∷ (is_listed h p, AlreadyListed) ∷ []
causes h (Open kind p) =
    (not (is_listed h p), NotListed) ∷ (is_filled h p, AlreadyFilled) ∷ (not (can_run kind p (index h)), NotUsable) ∷ []
causes h (CarryOn r m c) =
    (not (m == run_modulus h r), OtherArithmetic) ∷ (unfit_share c, Share) ∷ ((run_left h r == 0), NoTermLeft) ∷ []
causes h (CountOn r n m s c) =
    (not (n == 256), CellCount)
    ∷ (not (m == run_modulus h r), OtherArithmetic)
    ∷ (not (s == run_modulus h r), OtherSource)
    ∷ (unfit_share c, Share)
    ∷ (directly (run_opened h r), DirectRun)
    ∷ ((run_left h r == 0), NoTermLeft)
    ∷ []
causes h (Finish r m) = (not (m == run_modulus h r), OtherArithmetic) ∷ (nat_lt 0 (run_left h r), TermsLeft) ∷ []
causes h (Tell r) = []
causes h (Fill r) = residue_causes h (given h r)
causes h (FillWith o) = residue_causes h (Some o)
causes h (Show p) = (not (is_listed h p), NotListed) ∷ []

-- the run r is of this kind and of the pair (p, g) listed for its modulus
pub record IsRun (h : History) (r : ℕ) (kind : Kind) (p g : ℕ) : Type 0 where
  pub opened : run_opened h r ≡ Some (kind, p)
  pub listed : generator_listed h p ≡ Some g

-- the outcome is the result of a whole run of the index k for the pair (p, g), and so B_k modulo p where that is sound
pub record Whole (k p g : ℕ) (o : Outcome) : Type 0 where
  pub index_is : o.index ≡ k
  pub modulus_is : o.modulus ≡ p
  pub generator_is : o.generator ≡ g
  pub usable : can_run o.kind p k ≡ true
  pub result : o.residue ≡ run_result o.kind p g k
  pub bernoulli : Sound p g → BernoulliMod p k o.residue

-- a fill for p was made that put in the residue v
pub record FillMade (h : History) (p v : ℕ) : Type 0 where
  pub call : Deed
  pub outcome : Outcome
  pub happened : Among (record { deed = call; answer = Filled outcome }) h
  pub modulus_is : outcome.modulus ≡ p
  pub residue_is : outcome.residue ≡ v

-- what a call is answered that is made and not refused
abbrev pub Accepted : History → Deed → Answer → Type 0
Accepted h (Begin k) a = a ≡ Done
Accepted h (Enter p g) a = a ≡ Done
Accepted h (Open kind p) a = a ≡ Opened (openings h)
Accepted h (CarryOn r m c) a = a ≡ Shared (min c (run_left h r))
Accepted h (CountOn r n m s c) a = a ≡ Shared (min c (run_left h r))
Accepted h (Finish r m) a =
    (kind : Kind) × (p : ℕ) × (g : ℕ) × (o : Outcome) × IsRun h r kind p g × (a ≡ Finished o) × (o.kind ≡ kind) × Whole (index h) p g o
Accepted h (Tell r) a =
    (kind : Kind) × (p : ℕ) × (g : ℕ) × IsRun h r kind p g
    × (a ≡ Told (reported h r) (terms_of p - reported h r) (partial_sum kind p g (index h) (reported h r)))
Accepted h (Fill r) a = (o : Outcome) × (given h r ≡ Some o) × (a ≡ Filled o)
Accepted h (FillWith o) a = a ≡ Filled o
Accepted h (Show p) a =
    (g : ℕ) × (generator_listed h p ≡ Some g)
    × ((v : ℕ) → (a ≡ Shown (Some v)) ↔ FillMade h p v)
    × ((a ≡ Shown None) ↔ (is_filled h p ≡ false))
    × ((v : ℕ) → a ≡ Shown (Some v) → (o : Outcome) × (o.residue ≡ v) × Whole (index h) p g o × ((d : Deed) × Among (record { deed = d; answer = Filled o }) h))

-- an event is lawful after what came before it
pub record Lawful (past : History) (d : Deed) (a : Answer) : Type 0 where
  -- a call is not made exactly where it names no open run, or no finished residue that is left to fill in
  pub not_made : (a ≡ NotMade) ↔ (made past d ≡ false)
  -- a call that is made is refused exactly by the first cause that holds
  pub refused : made past d ≡ true → refusal_in a ≡ first_cause (causes past d)
  -- and otherwise does what it says
  pub accepted : made past d ≡ true → first_cause (causes past d) ≡ None → Accepted past d a
  -- a pair is taken exactly when it is fit, its modulus not listed, and fewer than 1,023 are listed
  pub taken : (p g : ℕ) → d ≡ Enter p g → (a ≡ Done) ↔ (Fit (index past) p g × (generator_listed past p ≡ None) × (listed_count past < 1023))
  -- a modulus can be shown exactly when it is listed
  pub shown : (p : ℕ) → d ≡ Show p → (refusal_in a ≡ None) ↔ (is_listed past p ≡ true)
  -- a finish works exactly with an arithmetic of the run's modulus once all its terms are reported
  pub finished : (r m : ℕ) → d ≡ Finish r m → is_open past r ≡ true
      → ((o : Outcome) × (a ≡ Finished o)) ↔ ((m ≡ run_modulus past r) × (reported past r ≡ terms_of (run_modulus past r)))
  -- no call is told that no term is left before all terms of its run are reported
  pub spared : (r : ℕ) → names r d ≡ true → a ≡ Refused NoTermLeft → reported past r ≡ terms_of (run_modulus past r)
  -- only begin and enter change the index and the listed pairs
  pub kept : begins d ≡ None → enters_pair d ≡ false
      → (index (record { deed = d; answer = a } ∷ past) ≡ index past) × ((p : ℕ) → generator_listed (record { deed = d; answer = a } ∷ past) p ≡ generator_listed past p)

-- every event of a history is lawful after what came before it
abbrev pub Law : History → Type 0
Law h = (later past : History) (d : Deed) (a : Answer) → h ≡ later ++ record { deed = d; answer = a } ∷ past → Lawful past d a

-- each call has its answer, and the calls with their answers are a lawful history
pub record Answered (deeds : List Deed) (answers : List Answer) : Type 0 where
  pub each : length answers ≡ length deeds
  pub law : Law (history [] deeds answers)
