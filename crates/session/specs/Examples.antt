-- A short history, at which the words of a history are computed.
-- Assumes nothing.
use Rattle.std.specs.Prelude.{ℕ, Bool, true, false, cond, not, ◌&&◌, List, [], ◌∷◌, Some, None, Option, ◌==◌}
use Rattle.std.specs.Option.{unwrap_or}
use Rattle.theory.specs.declared.kind.Kind.TheVariants.{Doubling}
use Rattle.arithmetic.specs.declared.refusal.Refusal.{Refusal}
use Rattle.arithmetic.specs.declared.refusal.Refusal.TheVariants.{AlreadyListed, NotListed, AlreadyFilled, OtherArithmetic, TermsLeft, NoTermLeft}
use Rattle.arithmetic.specs.Causes.{first_cause}
use Rattle.arithmetic.specs.Refusals.{refusal_number}
use Rattle.session.specs.declared.answer.Answer.{Answer}
use Rattle.session.specs.declared.answer.Answer.TheVariants.{Done, Opened, Share, Finished, Told, Filled, Shown, Refused, NotMade}
use Rattle.session.specs.declared.answer.Outcome.{Outcome}
use Rattle.session.specs.Events.{Deed, Begin, Enter, Open, CarryOn, Finish, Tell, Fill, Show, refusal_in}
use Rattle.session.specs.Histories.{History, history, index, generator_listed, listed_count, openings, reported, residue_filled, is_open, is_unspent}
use Rattle.session.specs.Law.{made, causes}

-- B_2 modulo 17
abbrev pub worked_outcome : Outcome
worked_outcome = record { kind = Doubling; index = 2; modulus = 17; generator = 3; residue = 3 }

abbrev pub worked_deeds : List Deed
worked_deeds =
    Begin 2 ∷ Enter 17 3 ∷ Enter 17 5 ∷ Open Doubling 17 ∷ CarryOn 0 17 4 ∷ Tell 0 ∷ Finish 0 17 ∷ CarryOn 0 7 4 ∷ CarryOn 0 17 9
    ∷ CarryOn 0 17 1 ∷ Finish 0 17 ∷ Tell 0 ∷ Fill 0 ∷ Fill 0 ∷ Show 17 ∷ Show 7 ∷ Open Doubling 17 ∷ []

abbrev pub worked_answers : List Answer
worked_answers =
    Done ∷ Done ∷ Refused AlreadyListed ∷ Opened 0 ∷ Share 4 ∷ Told 4 4 15 ∷ Refused TermsLeft ∷ Refused OtherArithmetic ∷ Share 4
    ∷ Refused NoTermLeft ∷ Finished worked_outcome ∷ NotMade ∷ Filled worked_outcome ∷ NotMade ∷ Shown (Some 3) ∷ Refused NotListed ∷ Refused AlreadyFilled ∷ []

-- a refusal by its number, and 0 for none
abbrev pub number_in : Option Refusal → ℕ
number_in None = 0
number_in (Some e) = refusal_number e

abbrev pub is_not_made : Answer → Bool
is_not_made Done = false
is_not_made (Opened r) = false
is_not_made (Share n) = false
is_not_made (Finished o) = false
is_not_made (Told t l s) = false
is_not_made (Filled o) = false
is_not_made (Shown v) = false
is_not_made (Refused e) = false
is_not_made NotMade = true

-- each call is made or not, and refused or not, as the history before it tells
abbrev pub agrees_all : History → Bool
agrees_all [] = true
agrees_all (e ∷ past) =
    cond (made past e.deed) (number_in (refusal_in e.answer) == number_in (first_cause (causes past e.deed))) (is_not_made e.answer)
    && agrees_all past

-- and what the whole history tells is what was done
abbrev pub words_test : History → Bool
words_test h =
    agrees_all h && index h == 2 && unwrap_or (generator_listed h 17) 0 == 3 && listed_count h == 1 && openings h == 1 && reported h 0 == 8
    && unwrap_or (residue_filled h 17) 0 == 3 && not (is_open h 0) && not (is_unspent h 0)

abbrev pub examples_test : Bool
examples_test = words_test (history [] worked_deeds worked_answers)
