-- What a history tells: the events of a session so far, the newest first.
-- Assumes nothing.
use Rattle.std.specs.Prelude.{◌≡◌, ℕ, ◌+◌, ◌-◌, Bool, false, cond, not, ◌&&◌, ◌⊎◌, List, [], ◌∷◌, is_some, Some, None, Option, ◌==◌}
use Rattle.std.specs.Option.{unwrap_or}
use Rattle.theory.specs.declared.kind.Kind.{Kind}
use Rattle.theory.specs.Direct.{terms_of}
use Rattle.session.specs.declared.answer.Answer.{Answer}
use Rattle.session.specs.declared.answer.Outcome.{Outcome}
use Rattle.session.specs.Events.{Deed, Event, begins, enters, enters_pair, opens, names, is_done, run_in, share_in, given_in, filled_in}

abbrev pub History : Type 0
History = List Event

-- what an option holds, where a condition is met
abbrev pub where_so : {X : Type 0} → Bool → Option X → Option X
where_so b None = None
where_so b (Some x) = cond b (Some x) None

-- the first of two options that holds something
abbrev pub or_else : {X : Type 0} → Option X → Option X → Option X
or_else None y = y
or_else (Some x) y = Some x

-- what the newest event that tells something tells
unfoldable pub newest : {X : Type 0} → (Event → Option X) → History → Option X
newest told [] = None
newest told (e ∷ past) = or_else (told e) (newest told past)

-- the sum of what the events tell
unfoldable pub total : (Event → ℕ) → History → ℕ
total told [] = 0
total told (e ∷ past) = told e + total told past

-- the index that an accepted begin sets
abbrev pub begun : Event → Option ℕ
begun e = where_so (is_done e.answer) (begins e.deed)

-- the index: that of the last accepted begin, or 2
abbrev pub index : History → ℕ
index h = unwrap_or (newest begun h) 2

-- the events after the last accepted begin
unfoldable pub since_begin : History → History
since_begin [] = []
since_begin (e ∷ past) = cond (is_some (begun e)) [] (e ∷ since_begin past)

-- the generator listed for the modulus p, where an enter after the last accepted begin took one
abbrev pub generator_listed : History → ℕ → Option ℕ
generator_listed h p = newest (λ e. where_so (is_done e.answer) (enters p e.deed)) (since_begin h)

-- how many pairs are listed
abbrev pub listed_count : History → ℕ
listed_count h = total (λ e. cond (is_done e.answer && enters_pair e.deed) 1 0) (since_begin h)

-- how many runs were opened
abbrev pub openings : History → ℕ
openings h = total (λ e. cond (is_some (run_in e.answer)) 1 0) h

-- the number is r
abbrev pub is_number : ℕ → Option ℕ → Bool
is_number r None = false
is_number r (Some n) = n == r

-- the kind and the modulus of the run r, where it was opened
abbrev pub run_opened : History → ℕ → Option (Kind × ℕ)
run_opened h r = newest (λ e. where_so (is_number r (run_in e.answer)) (opens e.deed)) h

-- the terms that the calls on the run r have reported, added up
abbrev pub reported : History → ℕ → ℕ
reported h r = total (λ e. unwrap_or (where_so (names r e.deed) (share_in e.answer)) 0) h

-- what finishing the run r gave, where it worked
abbrev pub given : History → ℕ → Option Outcome
given h r = newest (λ e. where_so (names r e.deed) (given_in e.answer)) h

-- what filling in the result of the run r put into the book
abbrev pub spent : History → ℕ → Option Outcome
spent h r = newest (λ e. where_so (names r e.deed) (filled_in e.answer)) h

-- the residue in an outcome for the modulus p
abbrev pub residue_by : ℕ → Option Outcome → Option ℕ
residue_by p None = None
residue_by p (Some o) = cond (o.modulus == p) (Some o.residue) None

-- the residue that was filled in for the modulus p
abbrev pub residue_filled : History → ℕ → Option ℕ
residue_filled h p = newest (λ e. residue_by p (filled_in e.answer)) h

-- the modulus of a run, where there is one
abbrev pub modulus_in : Option (Kind × ℕ) → ℕ
modulus_in None = 0
modulus_in (Some run) = run.1

-- the modulus of the run r, and its terms left
abbrev pub run_modulus : History → ℕ → ℕ
run_modulus h r = modulus_in (run_opened h r)

abbrev pub run_left : History → ℕ → ℕ
run_left h r = terms_of (run_modulus h r) - reported h r

-- the run r is open: it was opened, and no finish of it has worked
abbrev pub is_open : History → ℕ → Bool
is_open h r = is_some (run_opened h r) && not (is_some (given h r))

-- the run r is finished, and its result not filled in
abbrev pub is_unspent : History → ℕ → Bool
is_unspent h r = is_some (given h r) && not (is_some (spent h r))

-- the event happened
abbrev pub Among : Event → History → Type 0
Among e [] = ⊥
Among e (x ∷ past) = (x ≡ e) ⊎ Among e past

-- what has happened once these calls were answered so, in this order, after a past
unfoldable pub history : History → List Deed → List Answer → History
history past [] answers = past
history past (d ∷ deeds) [] = past
history past (d ∷ deeds) (a ∷ answers) = history (record { deed = d; answer = a } ∷ past) deeds answers
