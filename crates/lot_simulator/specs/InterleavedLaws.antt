-- What the definitions of the interleaved machine give for every state, step and run.
use Rattle.std.specs.Prelude.{◌≡◌, ◌≢◌, ◌↔◌, ℕ, ◌+◌, ◌*◌, ◌<◌, ◌==◌, false, IsTrue, List, Some, is_some}
use Rattle.std.specs.List.{list_any, sum_by}
use Rattle.lot_base.specs.Place.{place_of}
use Rattle.lot_machine.specs.declared.status.Status.TheVariants.{Running}
use Rattle.lot_machine.specs.declared.step.Answer.TheVariants.{NoMemory}
use Rattle.lot_simulator.specs.declared.interleaved.FineAnswer.{FineAnswer}
use Rattle.lot_simulator.specs.declared.interleaved.FineAnswer.TheVariants as fine
use Rattle.lot_simulator.specs.declared.interleaved.FineStep.{FineStep}
use Rattle.lot_simulator.specs.declared.interleaved.FineStep.TheVariants.{Begin, Look, Enter, Register, Acquire, Trim}
use Rattle.lot_simulator.specs.InterleavedState.{FineState, new_fine_state}
use Rattle.lot_simulator.specs.InterleavedSteps.{IsFineStep, holds, is_any_open, is_full, is_growth_blocked}
use Rattle.lot_simulator.specs.InterleavedSteps.{keys_of, section_of}
use Rattle.lot_simulator.specs.InterleavedView.{sequential_view, sequential_steps, steps_of, answers_of}
use Rattle.lot_simulator.specs.InterleavedView.{IsFineConsistent, taken_of, times_taken, once_if}
use Rattle.lot_machine.specs.Machine.{IsFull, new_machine, threads_of, times_in}
use Rattle.lot_machine.specs.Size.{IsTooLarge}
use Rattle.lot_machine.specs.Status.{is_parked, is_registered, is_running}
use Rattle.lot_simulator.specs.InterleavedOutcomes.{unparked_in, returned_in, parks_in, ends_park_in}
use Rattle.lot_machine.specs.Totals.{taken_threads_of}
use Rattle.lot_machine.specs.Run.{IsRun, OutcomesAlternate}
use Rattle.lot_machine.specs.Steps.{IsStep}

-- a new interleaved state stands for a new machine
abbrev pub NewStatesStandForNewMachines : Type 0
NewStatesStandForNewMachines = (max_threads callers : ℕ)
    → sequential_view (new_fine_state max_threads callers) ≡ new_machine max_threads

-- new states are consistent, and each step keeps that
abbrev pub NewFineStatesAreConsistent : Type 0
NewFineStatesAreConsistent = (max_threads callers : ℕ) → IsFineConsistent (new_fine_state max_threads callers)

abbrev pub FineStepsKeepConsistency : Type 0
FineStepsKeepConsistency = (s : FineState) (step : FineStep) (given : FineAnswer) (new : FineState)
    → IsFineConsistent s → IsFineStep s step given new → IsFineConsistent new

-- in a consistent state the node of a registered thread is in one of four places, and nobody else has one: with the
-- thread, in the list of its key word, among those that open sections took, and in its slot
abbrev pub EachNodeIsInOnePlace : Type 0
EachNodeIsInOnePlace = (s : FineState) (number : ℕ) → IsFineConsistent s →
    once_if (is_running (s.threads_view.status number))
    + times_in number (s.threads_view.lists (s.key_words number))
    + times_taken number (taken_of s) + once_if (is_some (s.slots number))
    ≡ once_if (is_registered (s.threads_view.status number))

-- and in no other list
abbrev pub NoNodeIsInAnotherList : Type 0
NoNodeIsInAnotherList = (s : FineState) (number key : ℕ) → IsFineConsistent s → key ≢ s.key_words number
    → times_in number (s.threads_view.lists key) ≡ 0

-- from one state, one step with one answer leads to one state
abbrev pub FineAnswersFixTheState : Type 0
FineAnswersFixTheState = (s : FineState) (step : FineStep) (given : FineAnswer) (new other : FineState)
    → IsFineStep s step given new → IsFineStep s step given other → new ≡ other

-- every step of a consistent state has an answer other than `NoMemory`
abbrev pub EachFineStepHasAnAnswer : Type 0
EachFineStepHasAnAnswer = (s : FineState) (step : FineStep) → IsFineConsistent s
    → (given : FineAnswer) × (given ≢ fine.Answer NoMemory) × (new : FineState) × IsFineStep s step given new

-- and no other such answer
abbrev pub NoOtherFineAnswer : Type 0
NoOtherFineAnswer = (s : FineState) (step : FineStep) (given other : FineAnswer) (new left : FineState)
    → IsFineConsistent s → IsFineStep s step given new → IsFineStep s step other left → given ≢ fine.Answer NoMemory
    → other ≢ fine.Answer NoMemory → given ≡ other

-- where memory may be wanting: at a registration that is neither full nor blocked, at an acquire of a running thread,
-- and at a trim of a table that is too large, while no section is open
abbrev pub MayWantFineMemory : FineState → FineStep → Type 0
MayWantFineMemory s Register = (IsFull s.threads_view → ⊥) × (is_growth_blocked s ≡ false)
MayWantFineMemory s (Acquire thread _) = s.threads_view.status thread ≡ Running
MayWantFineMemory s Trim = IsTooLarge (threads_of s.threads_view) s.size × (is_any_open s ≡ false)
MayWantFineMemory s _ = ⊥

-- there, and nowhere else, a step may be answered by `NoMemory`, and then it changes nothing
abbrev pub OnlyFineMemoryIsOpen : Type 0
OnlyFineMemoryIsOpen = (s : FineState) (step : FineStep) (new : FineState)
    → IsFineStep s step (fine.Answer NoMemory) new ↔ (MayWantFineMemory s step × (new ≡ s))

-- a step that fits needs the bucket at this place: it is that of a key of the step; or it is any, where a number is
-- free and the table has to grow, or where it is too large and is trimmed
abbrev pub NeedsBucket : FineState → FineStep → ℕ → Type 0
NeedsBucket s (Begin caller op) place = IsTrue (list_any (λ key. place_of key s.size == place) (keys_of op))
NeedsBucket s (Look thread) place = (key : ℕ) × (s.keys_read thread ≡ Some key) × (place_of key s.size ≡ place)
NeedsBucket s (Enter thread key valid park_token timed) place = place_of key s.size ≡ place
NeedsBucket s Register place = (is_full s ≡ false) × (s.size < 3 * (threads_of s.threads_view + 1))
NeedsBucket s Trim place = IsTooLarge (threads_of s.threads_view) s.size
NeedsBucket s _ place = ⊥

-- where a step is blocked, some caller's open section holds a bucket that the step needs, and nothing changes
abbrev pub BlockedNeedsASection : Type 0
BlockedNeedsASection = (s : FineState) (step : FineStep) (new : FineState) → IsFineConsistent s
    → IsFineStep s step fine.Blocked new
    → (caller : ℕ) × (place : ℕ) × IsTrue (holds place (section_of s caller)) × NeedsBucket s step place × (new ≡ s)

-- so where no section is open none is
abbrev pub NoneIsBlockedByNobody : Type 0
NoneIsBlockedByNobody = (s : FineState) (step : FineStep) (new : FineState) → is_any_open s ≡ false
    → IsFineStep s step fine.Blocked new → ⊥

-- every interleaved run from a consistent state amounts to a run of the machine, from the one sequential view to the
-- other
abbrev pub EveryInterleavingIsARun : Type 0
EveryInterleavingIsARun = (s : FineState) (steps : List FineStep) (answers : List FineAnswer) (last : FineState)
    → IsFineConsistent s → (ran : IsRun IsFineStep s steps answers last) →
    IsRun IsStep (sequential_view s) (steps_of (sequential_steps s steps answers last ran))
    (answers_of (sequential_steps s steps answers last ran)) (sequential_view last)

-- and in its answers each thread's parks and their outcomes take turns
abbrev pub InterleavedOutcomesAlternate : Type 0
InterleavedOutcomesAlternate = (s : FineState) (steps : List FineStep) (answers : List FineAnswer) (last : FineState)
    → IsFineConsistent s → IsRun IsFineStep s steps answers last → (number : ℕ) →
    OutcomesAlternate (parks_in number) (ends_park_in number) (is_parked ((sequential_view s).status number)) steps
    answers

-- the threads that were taken before, and those that its answers count as unparked, are as many as those that its
-- answers tell of as come back and those that are still taken at its end
abbrev pub InterleavedThreadsComeBack : Type 0
InterleavedThreadsComeBack = (s : FineState) (steps : List FineStep) (answers : List FineAnswer) (last : FineState)
    → IsFineConsistent s → IsRun IsFineStep s steps answers last →
    taken_threads_of (sequential_view s) + sum_by unparked_in answers
    ≡ sum_by returned_in answers + taken_threads_of (sequential_view last)
