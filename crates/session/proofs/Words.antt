-- How the words of a history change with one more event.
-- Main statements: newest_quiet, newest_told, the -quiet lemmas, among-fills.
-- Assumes nothing.
use Rattle.std.proofs.Common.{◌≡◌, ℕ, ◌+◌, Bool, true, false, cond, ◌&&◌, [], ◌∷◌, is_some, Some, None, Option, unwrap_or, sym, refl, ap, ◌∙◌, inr, ⊎_elim, zero-add, arith}
use Rattle.std.proofs.lemmas.Bool.{both_ways}
use Rattle.session.specs.declared.answer.Answer.{Answer}
use Rattle.session.specs.declared.answer.Answer.TheVariants.{Filled}
use Rattle.session.specs.declared.answer.Outcome.{Outcome}
use Rattle.session.specs.Events.{Deed, Begin, Enter, Open, CarryOn, CountOn, Finish, Tell, Fill, FillWith, Show, Event, begins, enters, enters_pair, opens, names, is_done, run_in, share_in, given_in, filled_in}
use Rattle.session.specs.Histories.{History, where_so, or_else, newest, total, begun, index, since_begin, generator_listed, listed_count, openings, is_number, run_opened, reported, given, spent, residue_by, residue_filled, Among}
use Rattle.session.specs.Law.{FillMade}
use Rattle.session.specs.Sessions.{event}

pub newest_quiet : {X : Type 0} (told : Event → Option X) (e : Event) (h : History) → told e ≡ None → newest told (e ∷ h) ≡ newest told h
unfolding newest
newest_quiet {X} told e h quiet = ap (λ (o : Option X). or_else o (newest told h)) quiet

pub newest_told : {X : Type 0} (told : Event → Option X) (e : Event) (h : History) (x : X) → told e ≡ Some x → newest told (e ∷ h) ≡ Some x
unfolding newest
newest_told {X} told e h x tells = ap (λ (o : Option X). or_else o (newest told h)) tells

pub total_more : (told : Event → ℕ) (e : Event) (h : History) (n : ℕ) → told e ≡ n → total told (e ∷ h) ≡ n + total told h
unfolding total
total_more told e h n tells = ap (λ (m : ℕ). m + total told h) tells

pub total_quiet : (told : Event → ℕ) (e : Event) (h : History) → told e ≡ 0 → total told (e ∷ h) ≡ total told h
total_quiet told e h quiet = total_more told e h 0 quiet ∙ zero-add (total told h)

pub newest_none : {X : Type 0} (told : Event → Option X) → newest told [] ≡ None
unfolding newest
newest_none told = refl

pub total_none : (told : Event → ℕ) → total told [] ≡ 0
unfolding total
total_none told = refl

pub not_so : {X : Type 0} (b : Bool) (o : Option X) → b ≡ false → where_so b o ≡ None
not_so b None e = refl
not_so b (Some x) e = ap (λ (c : Bool). cond c (Some x) None) e

pub is_so : {X : Type 0} (b : Bool) (o : Option X) → b ≡ true → where_so b o ≡ o
is_so b None e = refl
is_so b (Some x) e = ap (λ (c : Bool). cond c (Some x) None) e

pub since_quiet : (e : Event) (h : History) → begun e ≡ None → since_begin (e ∷ h) ≡ e ∷ since_begin h
unfolding since_begin
since_quiet e h quiet = ap (λ (o : Option ℕ). cond (is_some o) [] (e ∷ since_begin h)) quiet

pub since_begun : (e : Event) (h : History) (k : ℕ) → begun e ≡ Some k → since_begin (e ∷ h) ≡ []
unfolding since_begin
since_begun e h k tells = ap (λ (o : Option ℕ). cond (is_some o) [] (e ∷ since_begin h)) tells

-- a call that enters no pair enters no generator
enters_none : (q : ℕ) (d : Deed) → enters_pair d ≡ false → enters q d ≡ None
enters_none q (Begin k) e = refl
enters_none q (Enter p g) e = absurd (both_ways true e refl)
enters_none q (Open kind p) e = refl
enters_none q (CarryOn r m c) e = refl
enters_none q (CountOn r n m t c) e = refl
enters_none q (Finish r m) e = refl
enters_none q (Tell r) e = refl
enters_none q (Fill r) e = refl
enters_none q (FillWith o) e = refl
enters_none q (Show p) e = refl

-- an event whose answer tells nothing to a word leaves it
module _ (d : Deed) (a : Answer) (h : History) where
  quiet_begun : is_done a ≡ false → begun (event d a) ≡ None
  quiet_begun quiet = not_so (is_done a) (begins d) quiet

  pub index_quiet : is_done a ≡ false → index (event d a ∷ h) ≡ index h
  index_quiet quiet = ap (λ (o : Option ℕ). unwrap_or o 2) (newest_quiet begun (event d a) h (quiet_begun quiet))

  pub generator_quiet : is_done a ≡ false → (p : ℕ) → generator_listed (event d a ∷ h) p ≡ generator_listed h p
  generator_quiet quiet p =
      let told : Event → Option ℕ = λ e. where_so (is_done e.answer) (enters p e.deed) in
      ap (newest told) (since_quiet (event d a) h (quiet_begun quiet))
      ∙ newest_quiet told (event d a) (since_begin h) (not_so (is_done a) (enters p d) quiet)

  -- so does a call that neither begins nor enters
  pub listing_kept : begins d ≡ None → enters_pair d ≡ false → (index (event d a ∷ h) ≡ index h) × ((p : ℕ) → generator_listed (event d a ∷ h) p ≡ generator_listed h p)
  listing_kept idle none =
      let quiet : begun (event d a) ≡ None = ap (where_so (is_done a)) idle in (
        ap (λ (o : Option ℕ). unwrap_or o 2) (newest_quiet begun (event d a) h quiet),
        λ p.
            let told : Event → Option ℕ = λ e. where_so (is_done e.answer) (enters p e.deed) in
            ap (newest told) (since_quiet (event d a) h quiet) ∙ newest_quiet told (event d a) (since_begin h) (ap (where_so (is_done a)) (enters_none p d none)),
      )

  pub count_quiet : is_done a ≡ false → listed_count (event d a ∷ h) ≡ listed_count h
  count_quiet quiet =
      let told : Event → ℕ = λ e. cond (is_done e.answer && enters_pair e.deed) 1 0 in
      ap (total told) (since_quiet (event d a) h (quiet_begun quiet))
      ∙ total_quiet told (event d a) (since_begin h) (ap (λ (b : Bool). cond (b && enters_pair d) 1 0) quiet)

  pub openings_quiet : run_in a ≡ None → openings (event d a ∷ h) ≡ openings h
  openings_quiet quiet =
      total_quiet (λ e. cond (is_some (run_in e.answer)) 1 0) (event d a) h (ap (λ (o : Option ℕ). cond (is_some o) 1 0) quiet)

  pub run_quiet : run_in a ≡ None → (r : ℕ) → run_opened (event d a ∷ h) r ≡ run_opened h r
  run_quiet quiet r =
      newest_quiet (λ e. where_so (is_number r (run_in e.answer)) (opens e.deed)) (event d a) h
      (not_so (is_number r (run_in a)) (opens d) (ap (is_number r) quiet))

  pub reported_quiet : share_in a ≡ None → (r : ℕ) → reported (event d a ∷ h) r ≡ reported h r
  reported_quiet quiet r =
      total_quiet (λ e. unwrap_or (where_so (names r e.deed) (share_in e.answer)) 0) (event d a) h
      (ap (λ (o : Option ℕ). unwrap_or (where_so (names r d) o) 0) quiet)

  pub given_quiet : given_in a ≡ None → (r : ℕ) → given (event d a ∷ h) r ≡ given h r
  given_quiet quiet r =
      newest_quiet (λ e. where_so (names r e.deed) (given_in e.answer)) (event d a) h
      (ap (λ (o : Option Outcome). where_so (names r d) o) quiet)

  pub spent_quiet : filled_in a ≡ None → (r : ℕ) → spent (event d a ∷ h) r ≡ spent h r
  spent_quiet quiet r =
      newest_quiet (λ e. where_so (names r e.deed) (filled_in e.answer)) (event d a) h
      (ap (λ (o : Option Outcome). where_so (names r d) o) quiet)

  pub residue_quiet : filled_in a ≡ None → (p : ℕ) → residue_filled (event d a ∷ h) p ≡ residue_filled h p
  residue_quiet quiet p =
      newest_quiet (λ e. residue_by p (filled_in e.answer)) (event d a) h (ap (residue_by p) quiet)

  -- and a call that names another run leaves what is told of this one
  pub reported_other : (r : ℕ) → names r d ≡ false → reported (event d a ∷ h) r ≡ reported h r
  reported_other r other =
      total_quiet (λ e. unwrap_or (where_so (names r e.deed) (share_in e.answer)) 0) (event d a) h
      (ap (λ (o : Option ℕ). unwrap_or o 0) (not_so (names r d) (share_in a) other))

  pub given_other : (r : ℕ) → names r d ≡ false → given (event d a ∷ h) r ≡ given h r
  given_other r other =
      newest_quiet (λ e. where_so (names r e.deed) (given_in e.answer)) (event d a) h (not_so (names r d) (given_in a) other)

  pub spent_other : (r : ℕ) → names r d ≡ false → spent (event d a ∷ h) r ≡ spent h r
  spent_other r other =
      newest_quiet (λ e. where_so (names r e.deed) (filled_in e.answer)) (event d a) h (not_so (names r d) (filled_in a) other)

  -- a fill that was made is still there, and a quiet event makes none
  pub fill_kept : (p v : ℕ) → FillMade h p v → FillMade (event d a ∷ h) p v
  fill_kept p v f = record {
    call = f.call;
    outcome = f.outcome;
    happened = inr f.happened;
    modulus_is = f.modulus_is;
    residue_is = f.residue_is;
  }

  pub fill_quiet : filled_in a ≡ None → (p v : ℕ) → FillMade (event d a ∷ h) p v → FillMade h p v
  fill_quiet quiet p v f =
      ⊎_elim
      (λ (e : event d a ≡ event f.call (Filled f.outcome)).
      let same : filled_in a ≡ Some f.outcome = ap (λ (x : Event). filled_in x.answer) e in
      let never : None ≡ Some f.outcome = sym quiet ∙ same in
      absurd (let z : ◌≡◌ {A = ℕ} 0 1 = cc in omega arith))
      (λ (among : Among (event f.call (Filled f.outcome)) h).
      record { call = f.call; outcome = f.outcome; happened = among; modulus_is = f.modulus_is; residue_is = f.residue_is })
      f.happened
