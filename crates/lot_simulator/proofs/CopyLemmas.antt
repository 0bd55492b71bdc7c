-- Steps that are told anew have the same runs.
use Rattle.std.proofs.Common.{◌≡◌, List, [], ◌∷◌, ◌++◌, sym, ap, ◌∙◌, subst}
use Rattle.std.proofs.Common.{drop}
use Rattle.std.proofs.lemmas.List.{map-append}
use Rattle.std.specs.Prelude.{Option}
use Rattle.lot_base.specs.Waiting.{result_of, split_filter}
use Rattle.lot_base.specs.declared.token.FilterOp.{FilterOp}
use Rattle.lot_machine.specs.declared.step.Answer.{Answer}
use Rattle.lot_machine.specs.declared.step.Answer.TheVariants as answer
use Rattle.lot_machine.specs.declared.step.Op.{Op}
use Rattle.lot_machine.specs.declared.step.Op.TheVariants.{One, All, Filter, Requeue}
use Rattle.lot_machine.specs.declared.step.Step.{Step}
use Rattle.lot_machine.specs.declared.step.Step.TheVariants.{Register, Retire, Enter, Unpark, Deadline}
use Rattle.lot_machine.specs.declared.step.Step.TheVariants.{Resolve, Return, Acquire, Release, Trim}
use Rattle.lot_simulator.specs.declared.interleaved.FineAnswer.{FineAnswer}
use Rattle.lot_simulator.specs.declared.interleaved.FineStep.{FineStep}
use Rattle.lot_simulator.specs.Copies.{IsCopyOfOp, IsCopyOf, AreCopies}
use Rattle.lot_simulator.specs.InterleavedState.{FineState}
use Rattle.lot_simulator.specs.InterleavedSteps.{IsFineStep}
use Rattle.lot_simulator.specs.InterleavedRun.{AmountsTo}
use Rattle.lot_simulator.specs.InterleavedView.{IsFineConsistent, answers_of, sequential_step, sequential_steps}
use Rattle.lot_simulator.specs.InterleavedView.{sequential_view, steps_of}
use Rattle.lot_machine.specs.Machine.{Machine, after_unpark}
use Rattle.lot_simulator.specs.Private.FineCopies.{AreCopiesIn}
use Rattle.lot_machine.specs.Steps.{Gives, IsStep, IsUnpark}
use Rattle.lot_machine.specs.Run.{IsRun}
use Rattle.lot_simulator.proofs.FineRunLemmas.{IsRun-push-sequential}
use Rattle.lot_simulator.proofs.InterleavingLemmas.{IsRun-sequential}
use Rattle.lot_simulator.proofs.InterleavedOutcomeLemmas.{outcomes-interleaved, totals-interleaved}

IsUnpark-copy : (m : Machine) (op copy : Op) (given : Answer) (new : Machine) → IsCopyOfOp op copy
    → IsUnpark m op given new → IsUnpark m copy given new
IsUnpark-copy m (Filter key decisions token) copy given new (others, same, copy_is) does =
    subst (λ o. IsUnpark m o given new) (sym copy_is)
    (subst (λ (ds : List FilterOp). Gives (after_unpark m key (split_filter ds (m.lists key)) token)
    (answer.Unpark (result_of (split_filter ds (m.lists key)))) given new) (sym same) does)
IsUnpark-copy m (One key token) copy given new same does = subst (λ o. IsUnpark m o given new) (sym same) does
IsUnpark-copy m (All key token) copy given new same does = subst (λ o. IsUnpark m o given new) (sym same) does
IsUnpark-copy m (Requeue from to op token) copy given new same does =
    subst (λ o. IsUnpark m o given new) (sym same) does

IsStep-copy : (m : Machine) (step copy : Step) (given : Answer) (new : Machine) → IsCopyOf step copy
    → IsStep m step given new → IsStep m copy given new
IsStep-copy m (Unpark op) copy given new (other, copied, copy_is) does =
    subst (λ s. IsStep m s given new) (sym copy_is) (IsUnpark-copy m op other given new copied does)
IsStep-copy m Register copy given new same does = subst (λ s. IsStep m s given new) (sym same) does
IsStep-copy m (Retire thread) copy given new same does = subst (λ s. IsStep m s given new) (sym same) does
IsStep-copy m (Enter thread key valid park_token timed) copy given new same does =
    subst (λ s. IsStep m s given new) (sym same) does
IsStep-copy m (Deadline thread) copy given new same does = subst (λ s. IsStep m s given new) (sym same) does
IsStep-copy m (Resolve thread) copy given new same does = subst (λ s. IsStep m s given new) (sym same) does
IsStep-copy m (Return thread) copy given new same does = subst (λ s. IsStep m s given new) (sym same) does
IsStep-copy m (Acquire thread key) copy given new same does = subst (λ s. IsStep m s given new) (sym same) does
IsStep-copy m (Release thread key) copy given new same does = subst (λ s. IsStep m s given new) (sym same) does
IsStep-copy m Trim copy given new same does = subst (λ s. IsStep m s given new) (sym same) does

pub IsRun-copies : (m : Machine) (steps copies : List Step) (answers : List Answer) (last : Machine)
    → AreCopies steps copies → IsRun IsStep m steps answers last → IsRun IsStep m copies answers last
IsRun-copies m [] [] answers last same ran = ran
IsRun-copies m [] (_ ∷ _) answers last same ran = absurd same
IsRun-copies m (_ ∷ _) [] answers last same ran = absurd same
IsRun-copies m (step ∷ steps) (copy ∷ copies) [] last same ran = absurd ran
IsRun-copies m (step ∷ steps) (copy ∷ copies) (given ∷ answers) last (one, rest) (next, does, ran) =
    (next, IsStep-copy m step copy given next one does, IsRun-copies next steps copies answers last rest ran)

pub AreCopies-append : (steps copies more others : List Step) → AreCopies steps copies → AreCopies more others
    → AreCopies (steps ++ more) (copies ++ others)
AreCopies-append [] [] more others same rest = rest
AreCopies-append [] (_ ∷ _) more others same rest = absurd same
AreCopies-append (_ ∷ _) [] more others same rest = absurd same
AreCopies-append (step ∷ steps) (copy ∷ copies) more others (one, same) rest =
    (one, AreCopies-append steps copies more others same rest)

-- the steps so far have run, and these are their sequential steps, told anew
abbrev pub Tells : FineState → List FineStep → List FineAnswer → FineState → List Step → Type 0
Tells s steps answers now told = (ran : IsRun IsFineStep s steps answers now)
    × AreCopies (steps_of (sequential_steps s steps answers now ran)) told

pub Tells-push : (s : FineState) (steps : List FineStep) (answers : List FineAnswer) (now last : FineState)
    (step : FineStep) (given : FineAnswer) (told more : List Step) → Tells s steps answers now told
    → IsFineStep now step given last → AreCopies (steps_of (sequential_step now step given)) more
    → Tells s (steps ++ step ∷ []) (answers ++ given ∷ []) last (told ++ more)
Tells-push s steps answers now last step given told more (ran, same) next copied =
    let (longer, sequential) = IsRun-push-sequential s steps answers now last step given ran next in (
      longer,
      subst (λ (copied : List Step). AreCopies copied (told ++ more))
          (sym (ap steps_of sequential
          ∙ map-append (λ pair. pair.0) (sequential_steps s steps answers now ran) (sequential_step now step given)))
          (AreCopies-append (steps_of (sequential_steps s steps answers now ran))
          told (steps_of (sequential_step now step given)) more same copied),
    )

-- and so a run from a consistent state amounts to what was told
pub AmountsTo-told : (s last : FineState) (steps : List FineStep) (answers : List FineAnswer) (told : List Step)
    → IsFineConsistent s → Tells s steps answers last told → AmountsTo s last steps answers told
AmountsTo-told s last steps answers told consistent (ran, same) = record {
  run = ran;
  sequential = same;
  machine_run = IsRun-copies (sequential_view s) (steps_of (sequential_steps s steps answers last ran)) told
      (answers_of (sequential_steps s steps answers last ran)) (sequential_view last) same
      (IsRun-sequential s steps answers last consistent ran);
  outcomes = outcomes-interleaved s steps answers last consistent ran;
  come_back = totals-interleaved s steps answers last consistent ran;
}

-- once the first copy is gone, the others are those of the other steps
pub copies-left : (step : FineStep) (steps : List FineStep) (copies rest : List (Option Op))
    → AreCopiesIn (step ∷ steps) copies → rest ≡ drop 1 copies → AreCopiesIn steps rest
copies-left step steps [] rest copied left = absurd copied
copies-left step steps (copy ∷ copies) rest (one, others) left = subst (AreCopiesIn steps) (sym left) others
