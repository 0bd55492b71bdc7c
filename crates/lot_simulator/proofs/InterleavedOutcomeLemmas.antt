-- What interleaved answers tell of parks is what their sequential steps tell.
use Rattle.std.proofs.Common.{◌≡◌, ℕ, Bool, true, false, List, [], ◌∷◌, ◌++◌, refl, sym, ap, ◌∙◌, subst, arith}
use Rattle.std.proofs.Common.{MatchBool}
use Rattle.std.proofs.lemmas.List.{map-append}
use Rattle.std.proofs.lemmas.List.Sums.{sum_by-append, sum_by-cons}
use Rattle.std.specs.Prelude.{if◌then◌else◌}
use Rattle.std.specs.List.{list_any, sum_by}
use Rattle.lot_base.specs.Waiting.{has_any}
use Rattle.lot_machine.specs.declared.status.Status.{Status}
use Rattle.lot_machine.specs.declared.status.Status.TheVariants as status
use Rattle.lot_machine.specs.declared.step.Answer.{Answer}
use Rattle.lot_machine.specs.declared.step.Answer.TheVariants as answer
use Rattle.lot_machine.specs.declared.step.Step.{Step}
use Rattle.lot_machine.specs.declared.step.Step.TheVariants as machine
use Rattle.lot_simulator.specs.declared.interleaved.FineAnswer.{FineAnswer}
use Rattle.lot_simulator.specs.declared.interleaved.FineAnswer.TheVariants as fine
use Rattle.lot_simulator.specs.declared.interleaved.FineStep.{FineStep}
use Rattle.lot_simulator.specs.declared.interleaved.FineStep.TheVariants.{Begin, Commit, End, Wake, Deadline}
use Rattle.lot_simulator.specs.declared.interleaved.FineStep.TheVariants.{ReadKey, Look, Enter, Return, Register}
use Rattle.lot_simulator.specs.declared.interleaved.FineStep.TheVariants.{Retire, Acquire, Release, Trim}
use Rattle.lot_simulator.specs.InterleavedLaws.{InterleavedOutcomesAlternate, InterleavedThreadsComeBack}
use Rattle.lot_simulator.specs.InterleavedOutcomes.{unparked_in, returned_in, parks_in, ends_park_in}
use Rattle.lot_simulator.specs.InterleavedState.{Caller, FineState, Section, TakenThread}
use Rattle.lot_simulator.specs.InterleavedSteps.{IsCommit, IsFineStep, IsReadKey, section_of}
use Rattle.lot_simulator.specs.InterleavedView.{answered, answers_of, sequential_step}
use Rattle.lot_simulator.specs.InterleavedView.{sequential_steps, sequential_view, steps_of, taken_in}
use Rattle.lot_machine.specs.Status.{is_parked}
use Rattle.lot_machine.specs.Steps.{parks, ends_park}
use Rattle.lot_machine.specs.Run.{IsRun, OutcomesAlternate}
use Rattle.lot_machine.specs.Totals.{unparked_by, returned_by}
use Rattle.lot_simulator.proofs.HandedLemmas.{is_among}
use Rattle.lot_simulator.proofs.InterleavingLemmas.{IsRun-sequential, MatchOption-either}
use Rattle.lot_machine.proofs.LawLemmas.{OutcomesAlternate-run}
use Rattle.lot_machine.proofs.StepLemmas.{MatchBool-either}
use Rattle.lot_machine.proofs.TotalLemmas.{IsRun-balances}

-- an interleaved step that has no sequential step tells nothing of parks, and else it tells what that one does
abbrev TellsSame : ℕ → FineStep → FineAnswer → List (Step × Answer) → Type 0
TellsSame number step given [] = (parks_in number step given ≡ false) × (ends_park_in number step given ≡ false)
TellsSame number step given (told ∷ []) = (parks number told.0 told.1 ≡ parks_in number step given)
    × (ends_park number told.0 told.1 ≡ ends_park_in number step given)
TellsSame number step given (_ ∷ _ ∷ _) = ⊥

tells_same : (s : FineState) (number : ℕ) (step : FineStep) (given : FineAnswer)
    → TellsSame number step given (sequential_step s step given)
tells_same s number (Begin caller op) (fine.Answer answer.Misfit) = (refl, refl)
tells_same s number (Begin caller op) (fine.Answer given) = (refl, refl)
tells_same s number (Begin caller op) _ = (refl, refl)
tells_same s number (Commit caller) _ = (refl, refl)
tells_same s number (End caller) _ = (refl, refl)
tells_same s number (Wake caller) _ = (refl, refl)
tells_same s number (Deadline thread) fine.Late = at (list_any (λ (caller : Caller). is_among thread (taken_in caller.section)) s.callers)
  where
    at : (b : Bool) → TellsSame number (Deadline thread) fine.Late
        (if b then [] else answered (machine.Deadline thread) answer.Late)
    at true = (refl, refl)
    at false = (refl, refl)
tells_same s number (Deadline thread) _ = (refl, refl)
tells_same s number (ReadKey thread) _ = (refl, refl)
tells_same s number (Look thread) (fine.Answer answer.Misfit) = (refl, refl)
tells_same s number (Look thread) (fine.Answer (answer.TimedOut key last)) = (refl, refl)
tells_same s number (Look thread) (fine.Answer given) = (refl, refl)
tells_same s number (Look thread) _ = (refl, refl)
tells_same s number (Enter thread key valid park_token timed) (fine.Answer answer.Misfit) = (refl, refl)
tells_same s number (Enter thread key valid park_token timed) (fine.Answer given) = (refl, refl)
tells_same s number (Enter thread key valid park_token timed) _ = (refl, refl)
tells_same s number (Return thread) (fine.Answer answer.Misfit) = (refl, refl)
tells_same s number (Return thread) (fine.Answer given) = (refl, refl)
tells_same s number (Return thread) _ = (refl, refl)
tells_same s number Register (fine.Answer answer.Misfit) = (refl, refl)
tells_same s number Register (fine.Answer given) = (refl, refl)
tells_same s number Register _ = (refl, refl)
tells_same s number (Retire thread) (fine.Answer answer.Misfit) = (refl, refl)
tells_same s number (Retire thread) (fine.Answer given) = (refl, refl)
tells_same s number (Retire thread) _ = (refl, refl)
tells_same s number (Acquire thread key) (fine.Answer answer.Misfit) = (refl, refl)
tells_same s number (Acquire thread key) (fine.Answer given) = (refl, refl)
tells_same s number (Acquire thread key) _ = (refl, refl)
tells_same s number (Release thread key) (fine.Answer answer.Misfit) = (refl, refl)
tells_same s number (Release thread key) (fine.Answer given) = (refl, refl)
tells_same s number (Release thread key) _ = (refl, refl)
tells_same s number Trim (fine.Answer answer.Misfit) = (refl, refl)
tells_same s number Trim (fine.Answer given) = (refl, refl)
tells_same s number Trim _ = (refl, refl)

MatchBool-map : (b : Bool) {P Q R S : Type 0} → (P → R) → (Q → S) → MatchBool b P Q → MatchBool b R S
MatchBool-map true f g p = f p
MatchBool-map false f g q = g q

-- the parks of a thread and their outcomes take turns in interleaved steps
abbrev InTurns : ℕ → Bool → List FineStep → List FineAnswer → Type 0
InTurns number parked steps answers = OutcomesAlternate (parks_in number) (ends_park_in number) parked steps answers

-- one step, where those behind it are such
alternate-step : (number : ℕ) (parked : Bool) (step : FineStep) (given : FineAnswer) (steps : List FineStep)
    (answers : List FineAnswer) (told rest : List (Step × Answer)) → TellsSame number step given told
    → ((now : Bool) → OutcomesAlternate (parks number) (ends_park number) now (steps_of rest) (answers_of rest)
    → InTurns number now steps answers)
    → OutcomesAlternate (parks number) (ends_park number) parked (steps_of (told ++ rest)) (answers_of (told ++ rest))
    → InTurns number parked (step ∷ steps) (given ∷ answers)
alternate-step number parked step given steps answers [] rest (parks_not, ends_not) further turns =
    subst (λ b. MatchBool b ((parked ≡ false) × InTurns number true steps answers)
    (MatchBool (ends_park_in number step given)
    ((parked ≡ true) × InTurns number false steps answers)
    (InTurns number parked steps answers))) (sym parks_not)
    (subst (λ b. MatchBool b ((parked ≡ true) × InTurns number false steps answers)
    (InTurns number parked steps answers)) (sym ends_not) (further parked turns))
alternate-step number parked step given steps answers (told ∷ []) rest (parks_so, ends_so) further turns =
    subst (λ b. MatchBool b ((parked ≡ false) × InTurns number true steps answers)
    (MatchBool (ends_park_in number step given)
    ((parked ≡ true) × InTurns number false steps answers)
    (InTurns number parked steps answers))) parks_so
    (MatchBool-map (parks number told.0 told.1) (λ (not_parked, behind). (not_parked, further true behind))
    (λ others. subst (λ b. MatchBool b ((parked ≡ true) × InTurns number false steps answers)
    (InTurns number parked steps answers)) ends_so
    (MatchBool-map (ends_park number told.0 told.1) (λ (was_parked, behind). (was_parked, further false behind))
    (further parked) others)) turns)
alternate-step number parked step given steps answers (_ ∷ _ ∷ _) rest none further turns = absurd none

alternate : (s : FineState) (steps : List FineStep) (answers : List FineAnswer) (last : FineState)
    (ran : IsRun IsFineStep s steps answers last) (number : ℕ) (parked : Bool)
    → OutcomesAlternate (parks number) (ends_park number) parked (steps_of (sequential_steps s steps answers last ran))
    (answers_of (sequential_steps s steps answers last ran)) → InTurns number parked steps answers
alternate s [] [] last ran number parked turns = turns
alternate s [] (_ ∷ _) last none number parked turns = absurd none
alternate s (_ ∷ _) [] last none number parked turns = absurd none
alternate s (step ∷ steps) (given ∷ answers) last (next, does, ran) number parked turns =
    alternate-step number parked step given steps answers (sequential_step s step given)
    (sequential_steps next steps answers last ran) (tells_same s number step given)
    (λ now. alternate next steps answers last ran number now) turns

-- the machine's answer in an interleaved one; in any other, the one that tells of nobody
abbrev answer_in : FineAnswer → Answer
answer_in (fine.Answer given) = given
answer_in _ = answer.Misfit

module _ (s : FineState) (given : FineAnswer) (new : FineState) where
  -- the steps that answer nothing of the machine's but that they do not fit
  quiet-commit : (caller : ℕ) → IsFineStep s (Commit caller) given new → answer_in given ≡ answer.Misfit
  quiet-commit caller =
      MatchOption-either (section_of s caller) (λ _ (is, _). ap answer_in is) (λ section _. at section section.taken)
    where
      at : (section : Section) (taken : List TakenThread) → IsCommit s caller section taken given new
          → answer_in given ≡ answer.Misfit
      at section [] (is, _) = ap answer_in is
      at section (first ∷ rest) (is, _) = ap answer_in is

  quiet-end : (caller : ℕ) → IsFineStep s (End caller) given new → answer_in given ≡ answer.Misfit
  quiet-end caller =
      MatchOption-either (section_of s caller) (λ _ (is, _). ap answer_in is)
      (λ section _. MatchBool-either (has_any section.taken) (λ _ (is, _). ap answer_in is)
      (λ _ (is, _). ap answer_in is))

  quiet-wake : (caller : ℕ) → IsFineStep s (Wake caller) given new → answer_in given ≡ answer.Misfit
  quiet-wake caller = MatchBool-either _ (λ _ (is, _). ap answer_in is) (λ _ (is, _). ap answer_in is)

  quiet-deadline : (thread : ℕ) → IsFineStep s (Deadline thread) given new → answer_in given ≡ answer.Misfit
  quiet-deadline thread = MatchBool-either _ (λ _ (is, _). ap answer_in is) (λ _ (is, _). ap answer_in is)

  quiet-read_key : (thread : ℕ) (now : Status) → IsReadKey s thread now given new
      → answer_in given ≡ answer.Misfit
  quiet-read_key thread status.Late (is, _) = ap answer_in is
  quiet-read_key thread _ (is, _) = ap answer_in is

-- a number that answers have, where two of them have none, and of interleaved answers
module _ (f : Answer → ℕ) (of_misfit : f answer.Misfit ≡ 0) (of_late : f answer.Late ≡ 0) where
  quiet : (given : FineAnswer) → answer_in given ≡ answer.Misfit → f (answer_in given) ≡ 0
  quiet given is = ap f is ∙ of_misfit

  -- the sum over one answer
  sum-one : (given : Answer) → sum_by f (given ∷ []) ≡ f given
  sum-one given = omega arith

  sum-answered : (step : Step) (given : Answer) → sum_by f (answers_of (answered step given)) ≡ f given
  sum-answered step answer.Misfit = sym of_misfit
  sum-answered step given = sum-one given

  sum-told : (s : FineState) (step : FineStep) (given : FineAnswer) (new : FineState)
      → IsFineStep s step given new → sum_by f (answers_of (sequential_step s step given)) ≡ f (answer_in given)
  sum-told s (Begin caller op) (fine.Answer given) new does = sum-answered (machine.Unpark op) given
  sum-told s (Begin caller op) _ new does = sym of_misfit
  sum-told s (Commit caller) given new does = sym (quiet given (quiet-commit s given new caller does))
  sum-told s (End caller) given new does = sym (quiet given (quiet-end s given new caller does))
  sum-told s (Wake caller) given new does = sym (quiet given (quiet-wake s given new caller does))
  sum-told s (Deadline thread) given new does = none given (quiet given (quiet-deadline s given new thread does))
    where
      none : (answered_so : FineAnswer) → f (answer_in answered_so) ≡ 0
          → sum_by f (answers_of (sequential_step s (Deadline thread) answered_so)) ≡ f (answer_in answered_so)
      none fine.Late is = at (list_any (λ (caller : Caller). is_among thread (taken_in caller.section)) s.callers)
        where
          at : (b : Bool) → sum_by f (answers_of (if b then [] else answered (machine.Deadline thread) answer.Late))
              ≡ f answer.Misfit
          at true = sym of_misfit
          at false = sum-one answer.Late ∙ of_late ∙ sym of_misfit
      none _ is = sym is
  sum-told s (ReadKey thread) given new does =
      sym (quiet given (quiet-read_key s given new thread (s.threads_view.status thread) does))
  sum-told s (Look thread) (fine.Answer (answer.TimedOut key last)) new does = sum-one (answer.TimedOut key last)
  sum-told s (Look thread) (fine.Answer given) new does = sum-answered (machine.Return thread) given
  sum-told s (Look thread) _ new does = sym of_misfit
  sum-told s (Enter thread key valid park_token timed) (fine.Answer given) new does =
      sum-answered (machine.Enter thread key valid park_token timed) given
  sum-told s (Enter thread key valid park_token timed) _ new does = sym of_misfit
  sum-told s (Return thread) (fine.Answer given) new does = sum-answered (machine.Return thread) given
  sum-told s (Return thread) _ new does = sym of_misfit
  sum-told s Register (fine.Answer given) new does = sum-answered machine.Register given
  sum-told s Register _ new does = sym of_misfit
  sum-told s (Retire thread) (fine.Answer given) new does = sum-answered (machine.Retire thread) given
  sum-told s (Retire thread) _ new does = sym of_misfit
  sum-told s (Acquire thread key) (fine.Answer given) new does = sum-answered (machine.Acquire thread key) given
  sum-told s (Acquire thread key) _ new does = sym of_misfit
  sum-told s (Release thread key) (fine.Answer given) new does = sum-answered (machine.Release thread key) given
  sum-told s (Release thread key) _ new does = sym of_misfit
  sum-told s Trim (fine.Answer given) new does = sum-answered machine.Trim given
  sum-told s Trim _ new does = sym of_misfit

  sums-told : (s : FineState) (steps : List FineStep) (answers : List FineAnswer) (last : FineState)
      (ran : IsRun IsFineStep s steps answers last) → sum_by f (answers_of (sequential_steps s steps answers last ran))
      ≡ sum_by (λ given. f (answer_in given)) answers
  sums-told s [] [] last ran = refl
  sums-told s [] (_ ∷ _) last none = absurd none
  sums-told s (_ ∷ _) [] last none = absurd none
  sums-told s (step ∷ steps) (given ∷ answers) last (next, does, ran) =
      let rest : List (Step × Answer) = sequential_steps next steps answers last ran in
      let both = ap (sum_by f) (map-append (λ pair. pair.1) (sequential_step s step given) rest)
      ∙ sum_by-append f (answers_of (sequential_step s step given)) (answers_of rest) in
      omega (
        arith,
        both,
        sum-told s step given next does,
        sums-told next steps answers last ran,
        sum_by-cons (λ a. f (answer_in a)) given answers,
      )

-- the numbers of interleaved answers are those of the machine's answers in them
unparked-answer_in : (given : FineAnswer) → unparked_by (answer_in given) ≡ unparked_in given
unparked-answer_in (fine.Answer given) = refl
unparked-answer_in _ = refl

returned-answer_in : (given : FineAnswer) → returned_by (answer_in given) ≡ returned_in given
returned-answer_in (fine.Answer given) = refl
returned-answer_in _ = refl

sum-alike : (f g : FineAnswer → ℕ) (answers : List FineAnswer) → ((given : FineAnswer) → f given ≡ g given)
    → sum_by f answers ≡ sum_by g answers
sum-alike f g answers alike = ap (λ h. sum_by h answers) (λ i given. alike given i)

pub outcomes-interleaved : InterleavedOutcomesAlternate
outcomes-interleaved s steps answers last c ran number =
    alternate s steps answers last ran number (is_parked ((sequential_view s).status number))
    (OutcomesAlternate-run (sequential_view s) (steps_of (sequential_steps s steps answers last ran))
    (answers_of (sequential_steps s steps answers last ran)) (sequential_view last) (s.key_words, c.view)
    (IsRun-sequential s steps answers last c ran) number)

pub totals-interleaved : InterleavedThreadsComeBack
totals-interleaved s steps answers last c ran =
    let balance = IsRun-balances (sequential_view s) (steps_of (sequential_steps s steps answers last ran))
    (answers_of (sequential_steps s steps answers last ran)) (sequential_view last) (s.key_words, c.view)
    (IsRun-sequential s steps answers last c ran) in
    let unparked = sums-told unparked_by refl refl s steps answers last ran
    ∙ sum-alike (λ given. unparked_by (answer_in given)) unparked_in answers unparked-answer_in in
    let returned = sums-told returned_by refl refl s steps answers last ran
    ∙ sum-alike (λ given. returned_by (answer_in given)) returned_in answers returned-answer_in in
    omega (arith, balance, unparked, returned)
