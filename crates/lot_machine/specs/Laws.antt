-- What the definitions of `Steps` give for every machine and every run.
use Rattle.std.specs.Prelude.{◌≡◌, ◌≢◌, ◌↔◌, ℕ, ◌≤◌, ⊤, List, length}
use Rattle.lot_base.specs.declared.token.UnparkToken.{UnparkToken}
use Rattle.lot_base.specs.declared.token.RequeueOp.TheVariants.{Abort}
use Rattle.lot_base.specs.Waiting.{split_by}
use Rattle.lot_machine.specs.declared.status.Status.TheVariants.{Running}
use Rattle.lot_machine.specs.declared.step.Answer.{Answer}
use Rattle.lot_machine.specs.declared.step.Answer.TheVariants.{NoMemory, Recorded, Released}
use Rattle.lot_machine.specs.declared.step.Step.{Step}
use Rattle.lot_machine.specs.declared.step.Step.TheVariants.{Register, Acquire, Release, Trim}
use Rattle.lot_machine.specs.Status.{is_parked}
use Rattle.lot_machine.specs.Machine.{Machine, IsConsistent, IsFull, new_machine, threads_of, after_requeue}
use Rattle.lot_machine.specs.Size.{threads_after}
use Rattle.lot_machine.specs.Run.{IsRun, OutcomesAlternate}
use Rattle.lot_machine.specs.Steps.{IsStep, parks, ends_park}

-- from one machine, one step with one answer leads to one machine
abbrev pub StepAndAnswerFixTheState : Type 0
StepAndAnswerFixTheState = (m : Machine) (step : Step) (given : Answer) (new other : Machine) → IsStep m step given new
    → IsStep m step given other → new ≡ other

-- and so does one list of steps with one list of answers
abbrev pub AnswersFixTheRun : Type 0
AnswersFixTheRun = (m : Machine) (steps : List Step) (answers : List Answer) (last other : Machine)
    → IsRun IsStep m steps answers last → IsRun IsStep m steps answers other → last ≡ other

-- every step of a consistent machine has an answer other than `NoMemory`
abbrev pub EachStepHasAnAnswer : Type 0
EachStepHasAnAnswer = (m : Machine) (step : Step) → IsConsistent m
    → (given : Answer) × (given ≢ NoMemory) × (new : Machine) × IsStep m step given new

-- and no other such answer
abbrev pub NoOtherAnswer : Type 0
NoOtherAnswer = (m : Machine) (step : Step) (given other : Answer) (new left : Machine) → IsConsistent m
    → IsStep m step given new → IsStep m step other left → given ≢ NoMemory → other ≢ NoMemory → given ≡ other

-- where memory may be wanting: at a registration if a number is free, at an acquire of a running thread, and at a trim
abbrev pub MayWantMemory : Machine → Step → Type 0
MayWantMemory m Register = IsFull m → ⊥
MayWantMemory m (Acquire thread _) = m.status thread ≡ Running
MayWantMemory m Trim = ⊤
MayWantMemory m _ = ⊥

-- there, and nowhere else, a step may be answered by `NoMemory`, and then it changes nothing
abbrev pub OnlyMemoryIsOpen : Type 0
OnlyMemoryIsOpen = (m : Machine) (step : Step) (new : Machine)
    → IsStep m step NoMemory new ↔ (MayWantMemory m step × (new ≡ m))

-- a requeue that aborts changes nothing
abbrev pub AbortChangesNothing : Type 0
AbortChangesNothing = (m : Machine) (from to : ℕ) (token : UnparkToken)
    → after_requeue m from to (split_by Abort (m.lists from)) token ≡ m

-- an acquire that is recorded, and then a release of the key: the release is done, and all is as it was before
abbrev pub ReleaseUndoesAcquire : Type 0
ReleaseUndoesAcquire = (m : Machine) (thread key : ℕ) (given : Answer) (between last : Machine)
    → IsStep m (Acquire thread key) Recorded between → IsStep between (Release thread key) given last
    → (given ≡ Released) × (last ≡ m)

-- new machines are consistent, and each step keeps that
abbrev pub NewMachinesAreConsistent : Type 0
NewMachinesAreConsistent = (max_threads : ℕ) → IsConsistent (new_machine max_threads)

abbrev pub StepsKeepConsistency : Type 0
StepsKeepConsistency = (m : Machine) (step : Step) (given : Answer) (new : Machine) → IsConsistent m
    → IsStep m step given new → IsConsistent new

-- in a consistent machine no list is longer than the greatest number of threads
abbrev pub ListsAreShort : Type 0
ListsAreShort = (m : Machine) (key : ℕ) → IsConsistent m → length (m.lists key) ≤ m.max_threads

-- the answer to a step tells how many threads are registered after it
abbrev pub AnswersCountThreads : Type 0
AnswersCountThreads = (m : Machine) (step : Step) (given : Answer) (new : Machine) → IsConsistent m
    → IsStep m step given new → threads_of new ≡ threads_after (threads_of m) given

-- in every run each thread's parks and their outcomes take turns, from what its status says at first
abbrev pub ParksAndOutcomesAlternate : Type 0
ParksAndOutcomesAlternate = (m : Machine) (steps : List Step) (answers : List Answer) (last : Machine) → IsConsistent m
    → IsRun IsStep m steps answers last →
    (number : ℕ) →
    OutcomesAlternate (parks number) (ends_park number) (is_parked (m.status number)) steps answers
