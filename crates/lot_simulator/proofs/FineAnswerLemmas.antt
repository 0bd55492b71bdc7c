-- The answers of steps that do not fit.
use Rattle.std.proofs.Common.{◌≡◌, refl}
use Rattle.std.specs.Prelude.{Option, Some, None, Result, Ok, Err, IsErrAnd}
use Rattle.std.specs.Option.{ok_or}
use Rattle.lot_base.specs.declared.token.Misfit.{Misfit}
use Rattle.lot_machine.specs.declared.step.Answer.TheVariants as answer
use Rattle.lot_simulator.specs.declared.interleaved.FineAnswer.{FineAnswer}
use Rattle.lot_simulator.specs.declared.interleaved.FineAnswer.TheVariants as fine
use Rattle.lot_simulator.specs.declared.interleaved.FineStep.{FineStep}
use Rattle.lot_simulator.specs.FineLot.{fine_state}
use Rattle.lot_simulator.specs.FineLotState.{FineLotState}
use Rattle.lot_simulator.specs.InterleavedSteps.{IsFineStep}
use Rattle.lot_simulator.specs.Private.FineAnswers.{answer_for}
use Rattle.lot_simulator.proofs.FineStateLemmas.{DoneStep, step_of}

-- a refusal is answered so
pub answer_for-misfit : (result : Result FineAnswer Misfit) (P : Misfit → Type 0) → IsErrAnd result P
    → answer_for result ≡ fine.Answer answer.Misfit
answer_for-misfit (Ok given) P refused = absurd refused
answer_for-misfit (Err _) P refused = refl

-- a step that was refused, told of the same lot by another name
pub step_of_misfit : {lot old new : FineLotState} {step : FineStep} (result : Result FineAnswer Misfit)
    (P : Misfit → Type 0) → IsErrAnd result P → lot ≡ old → DoneStep lot new step (fine.Answer answer.Misfit)
    → IsFineStep (fine_state old) step (answer_for result) (fine_state new)
step_of_misfit (Ok given) P refused same done = absurd refused
step_of_misfit (Err _) P refused same done = step_of same done

-- what gave an error had no value
pub None-refused : {A : Type 0} (o : Option A) (refusal error : Misfit) → Err refusal ≡ ok_or o error → o ≡ None
None-refused None refusal error is = refl
None-refused (Some a) refusal error is = cc
