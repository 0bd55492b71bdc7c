-- A journal: the steps that were done on a lot, each with its answer, and the entries that are set aside for what the
-- threads that park may still do.
use Rattle.std.specs.Prelude.{ℕ, Bool, true, if◌then◌else◌, List, map, replicate, slice_set}
use Rattle.std.specs.Prelude.{Option, Some, None}
use Rattle.std.specs.List.{fold, sum_by}
use Rattle.lot_machine.specs.declared.step.Answer.{Answer}
use Rattle.lot_machine.specs.declared.step.Answer.TheVariants as answer
use Rattle.lot_machine.specs.declared.step.Step.{Step}
use Rattle.lot_machine.specs.declared.step.Step.TheVariants.{Register, Retire, Enter, Unpark, Deadline}
use Rattle.lot_machine.specs.declared.step.Step.TheVariants.{Resolve, Return, Acquire, Release, Trim}
use Rattle.lot_machine.specs.Machine.{Machine, new_machine}
use Rattle.lot_machine.specs.Status.{is_running, awaits_deadline, is_taken, can_resolve}
use Rattle.lot_machine.specs.Run.{IsRun}
use Rattle.lot_machine.specs.Steps.{IsStep}
use Rattle.lot_machine.specs.Totals.{unparked_by, returned_by}

-- a step and its answer
abbrev pub Entry : Type 0
Entry = Step × Answer

abbrev pub journal_steps : List Entry → List Step
journal_steps journal = map (λ entry. entry.0) journal

abbrev pub journal_answers : List Entry → List Answer
journal_answers journal = map (λ entry. entry.1) journal

-- the journal replays to this machine: its steps with its answers are a run from a new machine for so many threads
abbrev pub Replays : ℕ → List Entry → Machine → Type 0
Replays max_threads journal m =
    IsRun IsStep (new_machine max_threads) (journal_steps journal) (journal_answers journal) m

-- the step fits the status of its thread
abbrev pub fits : Machine → Step → Bool
fits m Register = true
fits m (Retire thread) = is_running (m.status thread)
fits m (Enter thread _ _ _ _) = is_running (m.status thread)
fits m (Unpark _) = true
fits m (Deadline thread) = awaits_deadline (m.status thread)
fits m (Resolve thread) = can_resolve (m.status thread)
fits m (Return thread) = is_taken (m.status thread)
fits m (Acquire thread _) = is_running (m.status thread)
fits m (Release thread _) = is_running (m.status thread)
fits m Trim = true

-- of which thread a step changes what is set aside, and to how many entries: a thread that entered has one for the end
-- of its park, and if it entered timed one more for its deadline. Both stay aside until the deadline or the end of the
-- park, also once the thread was unparked
abbrev pub set_aside_by : Step → Answer → Option (ℕ × ℕ)
set_aside_by (Enter thread _ _ _ timed) answer.Entered = Some (thread, if timed then 2 else 1)
set_aside_by (Deadline thread) answer.Late = Some (thread, 1)
set_aside_by (Resolve thread) (answer.TimedOut _ _) = Some (thread, 0)
set_aside_by (Resolve thread) (answer.Unparked _) = Some (thread, 0)
set_aside_by (Return thread) (answer.Unparked _) = Some (thread, 0)
set_aside_by _ _ = None

abbrev pub with_aside : List ℕ → Option (ℕ × ℕ) → List ℕ
with_aside asides None = asides
with_aside asides (Some (thread, entries)) = slice_set asides thread entries

-- how many entries are set aside for each thread number
abbrev pub asides_of : ℕ → List Entry → List ℕ
asides_of max_threads journal =
    fold (λ asides entry. with_aside asides (set_aside_by entry.0 entry.1)) (replicate max_threads 0) journal

-- how many entries a step needs that were not set aside for it: its own, and those that it sets aside
abbrev pub room_for : Step → ℕ
room_for (Enter _ _ true _ timed) = if timed then 3 else 2
room_for (Deadline _) = 0
room_for (Resolve _) = 0
room_for (Return _) = 0
room_for _ = 1

-- how many threads the journal's unparks unparked, and how many came back
abbrev pub unparked_total : List Entry → ℕ
unparked_total journal = sum_by unparked_by (journal_answers journal)

abbrev pub woken_in : List Entry → ℕ
woken_in journal = sum_by returned_by (journal_answers journal)
