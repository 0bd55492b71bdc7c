-- How an interleaved step tells its sequential step.
use Rattle.std.proofs.Common.{◌≡◌, ℕ, ◌==◌, Bool, true, false, List, [], ◌∷◌, ◌++◌, refl, sym, ap, ◌∙◌, subst}
use Rattle.std.proofs.lemmas.List.{map-append}
use Rattle.std.proofs.lemmas.List.Folds.{list_any-append}
use Rattle.std.specs.Prelude.{Option, ◌||◌, ◌&&◌, is_none}
use Rattle.lot_base.specs.NodeFields.{NodeFields}
use Rattle.lot_machine.specs.declared.step.Answer.TheVariants as answer
use Rattle.lot_machine.specs.declared.step.Op.{Op}
use Rattle.lot_simulator.specs.declared.interleaved.FineAnswer.{FineAnswer}
use Rattle.lot_simulator.specs.declared.interleaved.FineAnswer.TheVariants as fine
use Rattle.lot_simulator.specs.declared.interleaved.FineStep.{FineStep}
use Rattle.lot_simulator.specs.declared.interleaved.FineStep.TheVariants.{Begin, Commit, End, Wake, Deadline}
use Rattle.lot_simulator.specs.declared.interleaved.FineStep.TheVariants.{ReadKey}
use Rattle.lot_simulator.specs.declared.interleaved.FineStep.TheVariants.{Look, Enter, Return, Register, Retire}
use Rattle.lot_simulator.specs.declared.interleaved.FineStep.TheVariants.{Acquire, Release, Trim}
use Rattle.lot_simulator.specs.InterleavedState.{FineState, TakenThread}
use Rattle.lot_simulator.specs.InterleavedSteps.{IsDeadline, IsFineStep}
use Rattle.lot_simulator.specs.InterleavedView.{sequential_step}
use Rattle.lot_simulator.specs.Private.FineCaller.{taken_thread, taken_threads}
use Rattle.lot_simulator.specs.Private.FineCopies.{AreCopiesIn, IsCopyIn}
use Rattle.lot_machine.specs.Status.{awaits_deadline}
use Rattle.lot_simulator.proofs.HandedLemmas.{is_among}
use Rattle.lot_machine.proofs.StepLemmas.{MatchBool-either}

or_false : (b : Bool) → (b || false) ≡ b
or_false true = refl
or_false false = refl

-- one node more
pub is_among-next : (number : ℕ) (seen : List NodeFields) (node : NodeFields) (found next : Bool)
    → found ≡ is_among number (taken_threads seen) → next ≡ (found || node.number == number)
    → next ≡ is_among number (taken_threads (seen ++ node ∷ []))
is_among-next number seen node found next so_far is =
    is ∙ ap (λ b. b || node.number == number) so_far
    ∙ ap (λ b. is_among number (taken_threads seen) || b) (sym (or_false (node.number == number)))
    ∙ sym (ap (is_among number) (map-append taken_thread seen (node ∷ []))
    ∙ list_any-append (λ (t : TakenThread). t.number == number) (taken_threads seen) (taken_threads (node ∷ [])))

-- one step more
pub AreCopiesIn-push : (steps : List FineStep) (copies : List (Option Op)) (step : FineStep) (copy : Option Op)
    → AreCopiesIn steps copies → IsCopyIn step copy → AreCopiesIn (steps ++ step ∷ []) (copies ++ copy ∷ [])
AreCopiesIn-push [] [] step copy same next = (next, tt)
AreCopiesIn-push [] (_ ∷ _) step copy same next = absurd same
AreCopiesIn-push (_ ∷ _) [] step copy same next = absurd same
AreCopiesIn-push (first ∷ steps) (other ∷ copies) step copy (one, same) next =
    (one, AreCopiesIn-push steps copies step copy same next)

-- the state that a step left has the same sequential step for it
module _ (s new : FineState) where
  deadline-after : (thread : ℕ) (given : FineAnswer) → IsDeadline s thread given new
      → sequential_step new (Deadline thread) given ≡ sequential_step s (Deadline thread) given
  deadline-after thread given =
      let Same : FineAnswer → Type 0 =
      λ a. sequential_step new (Deadline thread) a ≡ sequential_step s (Deadline thread) a in
      MatchBool-either (awaits_deadline (s.threads_view.status thread) && is_none (s.slots thread))
      (λ _ (answers, new_is).
      subst Same (sym answers) (ap (λ n. sequential_step n (Deadline thread) fine.Late) new_is))
      (λ _ (answers, new_is).
      subst Same (sym answers) (ap (λ n. sequential_step n (Deadline thread) (fine.Answer answer.Misfit)) new_is))

  pub sequential_step-after : (step : FineStep) (given : FineAnswer) → IsFineStep s step given new
      → sequential_step new step given ≡ sequential_step s step given
  sequential_step-after (Deadline thread) given does = deadline-after thread given does
  sequential_step-after (Begin caller op) (fine.Answer given) does = refl
  sequential_step-after (Begin caller op) _ does = refl
  sequential_step-after (Look thread) (fine.Answer (answer.TimedOut key last)) does = refl
  sequential_step-after (Look thread) (fine.Answer given) does = refl
  sequential_step-after (Look thread) _ does = refl
  sequential_step-after (Enter thread key valid park_token timed) (fine.Answer given) does = refl
  sequential_step-after (Enter thread key valid park_token timed) _ does = refl
  sequential_step-after (Return thread) (fine.Answer given) does = refl
  sequential_step-after (Return thread) _ does = refl
  sequential_step-after Register (fine.Answer given) does = refl
  sequential_step-after Register _ does = refl
  sequential_step-after (Retire thread) (fine.Answer given) does = refl
  sequential_step-after (Retire thread) _ does = refl
  sequential_step-after (Acquire thread key) (fine.Answer given) does = refl
  sequential_step-after (Acquire thread key) _ does = refl
  sequential_step-after (Release thread key) (fine.Answer given) does = refl
  sequential_step-after (Release thread key) _ does = refl
  sequential_step-after Trim (fine.Answer given) does = refl
  sequential_step-after Trim _ does = refl
  sequential_step-after (Commit caller) given does = refl
  sequential_step-after (End caller) given does = refl
  sequential_step-after (Wake caller) given does = refl
  sequential_step-after (ReadKey thread) given does = refl
