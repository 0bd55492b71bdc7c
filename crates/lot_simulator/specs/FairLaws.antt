-- What the definitions of `FairSteps` give for every state and every run.
use Rattle.std.specs.Prelude.{◌≡◌, ℕ, ◌≤◌, Bool, true, false, ◌==◌, IsFalse, ⊤, List, ◌∷◌, ◌++◌}
use Rattle.std.specs.Prelude.{length, drop, count_by, ◌⊎◌}
use Rattle.lot_base.specs.declared.token.RequeueOp.{RequeueOp}
use Rattle.lot_base.specs.Waiting.{split_by}
use Rattle.lot_machine.specs.Run.{IsRun}
use Rattle.lot_simulator.specs.declared.fair.fair_core.FairStatus.TheVariants.{Queued, Handed}
use Rattle.lot_simulator.specs.declared.fair.schedule.FairAnswer.{FairAnswer}
use Rattle.lot_simulator.specs.declared.fair.schedule.FairAnswer.TheVariants.{Locked}
use Rattle.lot_simulator.specs.declared.fair.schedule.FairStep.{FairStep}
use Rattle.lot_simulator.specs.declared.fair.schedule.FairStep.TheVariants.{Return, NotifyOne, NotifyAll}
use Rattle.lot_simulator.specs.FairMachine.{FairState, IsFairConsistent, new_fair_state}
use Rattle.lot_simulator.specs.FairSteps.{IsFairStep, IsNotifyBy}

-- new states are consistent, and each step keeps that
abbrev pub NewStatesAreConsistent : Type 0
NewStatesAreConsistent = (max_threads : ℕ) → IsFairConsistent (new_fair_state max_threads)

abbrev pub FairStepsKeepConsistency : Type 0
FairStepsKeepConsistency = (m : FairState) (step : FairStep) (given : FairAnswer) (new : FairState)
    → IsFairConsistent m → IsFairStep m step given new → IsFairConsistent new

-- in this step a thread comes back that was handed the mutex
abbrev pub comes_back : ℕ → FairStep → FairAnswer → Bool
comes_back number (Return thread) Locked = thread == number
comes_back number _ _ = false

-- it does not in any of these steps
abbrev pub NeverComesBack : ℕ → List FairStep → List FairAnswer → Type 0
NeverComesBack number (step ∷ steps) (given ∷ answers) =
    IsFalse (comes_back number step given) × NeverComesBack number steps answers
NeverComesBack number _ _ = ⊤

-- who waited before a thread leave from the front, and all others stand behind it
pub record MovesUp (thread : ℕ) (before behind : List ℕ) (now : List ℕ) : Type 0 where
  pub gone : List ℕ
  pub left : List ℕ
  pub came : List ℕ
  pub leave : before ≡ gone ++ left
  pub stand : now ≡ left ++ thread ∷ (behind ++ came)

-- the mutex is handed over in the order of arrival: in every run in which a thread that waits for it does not come
-- back, it was handed the mutex by the end, or those before it have only become fewer, and whoever waited behind it or
-- came later stands behind it
abbrev pub WaitersKeepTheirOrder : Type 0
WaitersKeepTheirOrder = (m : FairState) (thread : ℕ) (before behind : List ℕ) (steps : List FairStep)
    (answers : List FairAnswer) (last : FairState) → m.waiters ≡ before ++ thread ∷ behind
    → IsRun IsFairStep m steps answers last → NeverComesBack thread steps answers
    → (last.status thread ≡ Handed) ⊎ MovesUp thread before behind last.waiters

-- a thread that a notify moves, by any operation (`IsFairStep` says by which two a notify of one or of all may be),
-- stands behind those who waited and those who were moved before it, and keeps that place before all who come later,
-- until it is handed the mutex
abbrev pub NotifiedThreadsKeepTheirPlace : Type 0
NotifiedThreadsKeepTheirPlace = (m : FairState) (op : RequeueOp) (given : FairAnswer) (notified : FairState)
    (thread : ℕ) (before behind : List ℕ) (steps : List FairStep) (answers : List FairAnswer) (last : FairState)
    → IsNotifyBy m op given notified → (split_by op m.sleepers).moved ≡ before ++ thread ∷ behind
    → IsRun IsFairStep notified steps answers last → NeverComesBack thread steps answers
    → (last.status thread ≡ Handed) ⊎ MovesUp thread (m.waiters ++ before) behind last.waiters

-- whether a step is a notify of one thread
abbrev pub notifies_one : FairStep → Bool
notifies_one NotifyOne = true
notifies_one _ = false

-- whether it is one of all
abbrev pub notifies_all : FairStep → Bool
notifies_all NotifyAll = true
notifies_all _ = false

-- a thread that has left the mutex and sleeps, while there are no more notifies of one thread than others sleep before
-- it, and none of all: it sleeps on, and its wait has no outcome
abbrev pub UnnotifiedThreadsSleep : Type 0
UnnotifiedThreadsSleep = (m : FairState) (thread : ℕ) (before behind : List ℕ) (steps : List FairStep)
    (answers : List FairAnswer) (last : FairState) → IsFairConsistent m → m.status thread ≡ Queued
    → m.sleepers ≡ before ++ thread ∷ behind → IsRun IsFairStep m steps answers last
    → count_by notifies_one steps ≤ length before → count_by notifies_all steps ≡ 0
    → NeverComesBack thread steps answers × (last.status thread ≡ Queued)
    × (came : List ℕ) × (last.sleepers ≡ drop (count_by notifies_one steps) before ++ thread ∷ (behind ++ came))
