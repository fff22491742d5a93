-- Calls and answers as plain data, and what an event tells: a call together with its answer.
-- Assumes nothing.
use Rattle.std.specs.Prelude.{ℕ, Bool, true, false, cond, Some, None, Option, ◌==◌}
use Rattle.theory.specs.declared.kind.Kind.{Kind}
use Rattle.arithmetic.specs.declared.refusal.Refusal.{Refusal}
use Rattle.session.specs.declared.answer.Answer.{Answer}
use Rattle.session.specs.declared.answer.Answer.TheVariants.{Done, Opened, Share, Finished, Told, Filled, Shown, Refused, NotMade}
use Rattle.session.specs.declared.answer.Outcome.{Outcome}

-- a call: a run goes by its number, an arithmetic and a digit source by their modulus, cells by how many there are
pub data Deed : Type 0 where
  Begin : (index : ℕ) → Deed
  Enter : (modulus generator : ℕ) → Deed
  Open : (kind : Kind) (modulus : ℕ) → Deed
  CarryOn : (run arithmetic terms : ℕ) → Deed
  CountOn : (run cells arithmetic source terms : ℕ) → Deed
  Finish : (run arithmetic : ℕ) → Deed
  Tell : (run : ℕ) → Deed
  Fill : (run : ℕ) → Deed
  FillWith : Outcome → Deed
  Show : (modulus : ℕ) → Deed

pub record Event : Type 0 where
  pub deed : Deed
  pub answer : Answer

-- the index that a call begins a listing for
abbrev pub begins : Deed → Option ℕ
begins (Begin k) = Some k
begins (Enter p g) = None
begins (Open kind p) = None
begins (CarryOn r m c) = None
begins (CountOn r n m s c) = None
begins (Finish r m) = None
begins (Tell r) = None
begins (Fill r) = None
begins (FillWith o) = None
begins (Show p) = None

-- the generator that a call enters for the modulus q
abbrev pub enters : ℕ → Deed → Option ℕ
enters q (Begin k) = None
enters q (Enter p g) = cond (p == q) (Some g) None
enters q (Open kind p) = None
enters q (CarryOn r m c) = None
enters q (CountOn r n m s c) = None
enters q (Finish r m) = None
enters q (Tell r) = None
enters q (Fill r) = None
enters q (FillWith o) = None
enters q (Show p) = None

-- a call enters a pair
abbrev pub enters_pair : Deed → Bool
enters_pair (Begin k) = false
enters_pair (Enter p g) = true
enters_pair (Open kind p) = false
enters_pair (CarryOn r m c) = false
enters_pair (CountOn r n m s c) = false
enters_pair (Finish r m) = false
enters_pair (Tell r) = false
enters_pair (Fill r) = false
enters_pair (FillWith o) = false
enters_pair (Show p) = false

-- the kind and the modulus of the run that a call opens
abbrev pub opens : Deed → Option (Kind × ℕ)
opens (Begin k) = None
opens (Enter p g) = None
opens (Open kind p) = Some (kind, p)
opens (CarryOn r m c) = None
opens (CountOn r n m s c) = None
opens (Finish r m) = None
opens (Tell r) = None
opens (Fill r) = None
opens (FillWith o) = None
opens (Show p) = None

-- a call names the run q
abbrev pub names : ℕ → Deed → Bool
names q (Begin k) = false
names q (Enter p g) = false
names q (Open kind p) = false
names q (CarryOn r m c) = r == q
names q (CountOn r n m s c) = r == q
names q (Finish r m) = r == q
names q (Tell r) = r == q
names q (Fill r) = r == q
names q (FillWith o) = false
names q (Show p) = false

-- an accepted begin or enter
abbrev pub is_done : Answer → Bool
is_done Done = true
is_done (Opened r) = false
is_done (Share n) = false
is_done (Finished o) = false
is_done (Told t l s) = false
is_done (Filled o) = false
is_done (Shown v) = false
is_done (Refused e) = false
is_done NotMade = false

-- the number of the run that was opened
abbrev pub run_in : Answer → Option ℕ
run_in Done = None
run_in (Opened r) = Some r
run_in (Share n) = None
run_in (Finished o) = None
run_in (Told t l s) = None
run_in (Filled o) = None
run_in (Shown v) = None
run_in (Refused e) = None
run_in NotMade = None

-- the terms that a call reports
abbrev pub share_in : Answer → Option ℕ
share_in Done = None
share_in (Opened r) = None
share_in (Share n) = Some n
share_in (Finished o) = None
share_in (Told t l s) = None
share_in (Filled o) = None
share_in (Shown v) = None
share_in (Refused e) = None
share_in NotMade = None

-- what a finish that worked gave
abbrev pub given_in : Answer → Option Outcome
given_in Done = None
given_in (Opened r) = None
given_in (Share n) = None
given_in (Finished o) = Some o
given_in (Told t l s) = None
given_in (Filled o) = None
given_in (Shown v) = None
given_in (Refused e) = None
given_in NotMade = None

-- what a fill that was made put into the book
abbrev pub filled_in : Answer → Option Outcome
filled_in Done = None
filled_in (Opened r) = None
filled_in (Share n) = None
filled_in (Finished o) = None
filled_in (Told t l s) = None
filled_in (Filled o) = Some o
filled_in (Shown v) = None
filled_in (Refused e) = None
filled_in NotMade = None

-- the refusal that was given
abbrev pub refusal_in : Answer → Option Refusal
refusal_in Done = None
refusal_in (Opened r) = None
refusal_in (Share n) = None
refusal_in (Finished o) = None
refusal_in (Told t l s) = None
refusal_in (Filled o) = None
refusal_in (Shown v) = None
refusal_in (Refused e) = Some e
refusal_in NotMade = None
