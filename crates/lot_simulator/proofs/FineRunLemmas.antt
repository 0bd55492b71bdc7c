-- Interleaved runs that go on.
use Rattle.std.proofs.Common.{◌≡◌, List, [], ◌∷◌, ◌++◌, refl, sym, ap, ◌∙◌, subst, append-nil, append_assoc}
use Rattle.lot_simulator.specs.declared.interleaved.FineAnswer.{FineAnswer}
use Rattle.lot_simulator.specs.declared.interleaved.FineStep.{FineStep}
use Rattle.lot_machine.specs.declared.step.Answer.{Answer}
use Rattle.lot_machine.specs.declared.step.Step.{Step}
use Rattle.lot_simulator.specs.InterleavedState.{FineState}
use Rattle.lot_simulator.specs.InterleavedSteps.{IsFineStep}
use Rattle.lot_machine.specs.Run.{IsRun}
use Rattle.lot_simulator.specs.InterleavedView.{sequential_step, sequential_steps}

-- a run, and one step more, and its sequential steps
pub IsRun-push-sequential : (s : FineState) (steps : List FineStep) (answers : List FineAnswer) (now last : FineState)
    (step : FineStep) (given : FineAnswer) (ran : IsRun IsFineStep s steps answers now) → IsFineStep now step given last
    → (longer : IsRun IsFineStep s (steps ++ step ∷ []) (answers ++ given ∷ []) last)
    × (sequential_steps s (steps ++ step ∷ []) (answers ++ given ∷ []) last longer
    ≡ sequential_steps s steps answers now ran ++ sequential_step now step given)
IsRun-push-sequential s [] [] now last step given same next = (
  (last, subst (λ n. IsFineStep n step given last) (sym same) next, refl),
  append-nil (sequential_step s step given) ∙ ap (λ state. sequential_step state step given) same,
)
IsRun-push-sequential s [] (_ ∷ _) now last step given ran next = absurd ran
IsRun-push-sequential s (_ ∷ _) [] now last step given ran next = absurd ran
IsRun-push-sequential s (first ∷ steps) (answer ∷ answers) now last step given (after, does, rest) next =
    let (longer, same) = IsRun-push-sequential after steps answers now last step given rest next in (
      (after, does, longer),
      ap (λ (told : List (Step × Answer)). sequential_step s first answer ++ told) same
          ∙ sym (append_assoc (sequential_step s first answer) (sequential_steps after steps answers now rest)
          (sequential_step now step given)),
    )
