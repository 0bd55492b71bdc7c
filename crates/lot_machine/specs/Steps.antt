-- The steps of the machine, and which of them park a thread and end its park. `status.` and `answer.` stand before the
-- variants of `Status` and `Answer`.
use Rattle.std.specs.Prelude.{◌≡◌, ℕ, ◌==◌, Bool, true, false, ◌&&◌, MatchBool, length}
use Rattle.lot_base.specs.Waiting.{Split, split_first, split_all, split_filter, split_by, result_of, requeue_result}
use Rattle.lot_machine.specs.declared.status.Status.{Status}
use Rattle.lot_machine.specs.declared.status.Status.TheVariants as status
use Rattle.lot_machine.specs.declared.step.Answer.{Answer}
use Rattle.lot_machine.specs.declared.step.Answer.TheVariants as answer
use Rattle.lot_machine.specs.declared.step.Op.{Op}
use Rattle.lot_machine.specs.declared.step.Op.TheVariants.{One, All, Filter, Requeue}
use Rattle.lot_machine.specs.declared.step.Step.{Step}
use Rattle.lot_machine.specs.declared.step.Step.TheVariants.{Register, Retire, Enter, Unpark, Deadline}
use Rattle.lot_machine.specs.declared.step.Step.TheVariants.{Resolve, Return, Acquire, Release, Trim}
use Rattle.lot_machine.specs.Status.{is_running, awaits_deadline}
use Rattle.lot_machine.specs.Machine.{Machine, Waiter, IsLeastFree, IsFull, StandsAt, is_last, with_status}
use Rattle.lot_machine.specs.Machine.{after_retire, after_acquire, after_release, after_enter, after_unpark}
use Rattle.lot_machine.specs.Machine.{after_requeue, after_timeout}

-- the step should give the answer `expected` and leave the machine `after`: it gave `given` and left `new`
abbrev pub Gives : Machine → Answer → Answer → Machine → Type 0
Gives after expected given new = (given ≡ expected) × (new ≡ after)

-- Register: the least free number, whose thread has no records, since a free number has none; or that there is no free
-- number; memory may be refused only where there is one
abbrev pub IsRegister : Machine → Answer → Machine → Type 0
IsRegister m (answer.Registered number) new = IsLeastFree m number × (new ≡ with_status m number status.Running)
IsRegister m answer.Full new = IsFull m × (new ≡ m)
IsRegister m answer.NoMemory new = (IsFull m → ⊥) × (new ≡ m)
IsRegister m _ new = ⊥

-- One, All, Filter and Requeue
abbrev pub IsUnpark : Machine → Op → Answer → Machine → Type 0
IsUnpark m (One key token) given new =
    let split : Split Waiter = split_first (m.lists key) in
    Gives (after_unpark m key split token) (answer.Unpark (result_of split)) given new
IsUnpark m (All key token) given new =
    let split : Split Waiter = split_all (m.lists key) in
    Gives (after_unpark m key split token) (answer.Count (length split.taken)) given new
IsUnpark m (Filter key decisions token) given new =
    let split : Split Waiter = split_filter decisions.items (m.lists key) in
    Gives (after_unpark m key split token) (answer.Unpark (result_of split)) given new
IsUnpark m (Requeue from to op token) given new =
    let split : Split Waiter = split_by op (m.lists from) in
    Gives (after_requeue m from to split token) (answer.Unpark (requeue_result op split)) given new

-- Return, where the thread has this status: one that was taken runs again, with its token, also if its deadline had
-- passed before
abbrev pub IsReturn : Machine → ℕ → Status → Answer → Machine → Type 0
IsReturn m thread (status.Taken token) given new =
    Gives (with_status m thread status.Running) (answer.Unparked token) given new
IsReturn m thread _ given new = Gives m answer.Misfit given new

-- Resolve, where the thread has this status: a late one leaves its list, and one that was taken does as in Return,
-- whether its deadline has passed or not, and also if it had none
abbrev pub IsResolve : Machine → ℕ → Status → Answer → Machine → Type 0
IsResolve m thread status.Late given new =
    (key : ℕ) × StandsAt m thread key × Gives (after_timeout m thread key)
    (answer.TimedOut key (is_last m thread key)) given new
IsResolve m thread s given new = IsReturn m thread s given new

-- Acquire, of a running thread: it is recorded, or memory is wanting
abbrev pub IsAcquire : Machine → ℕ → ℕ → Answer → Machine → Type 0
IsAcquire m thread key answer.Recorded new = new ≡ after_acquire m thread key
IsAcquire m thread key answer.NoMemory new = new ≡ m
IsAcquire m thread key _ new = ⊥

-- Trim: lists, statuses and records stay, whether the table is smaller then or memory is wanting
abbrev pub IsTrim : Machine → Answer → Machine → Type 0
IsTrim m answer.Trimmed new = new ≡ m
IsTrim m answer.NoMemory new = new ≡ m
IsTrim m _ new = ⊥

-- one step: the state before, the step, its answer and the state after; one that does not fit the status of its
-- thread is answered by `Misfit`, and changes nothing
abbrev pub IsStep : Machine → Step → Answer → Machine → Type 0
IsStep m Register given new = IsRegister m given new
IsStep m (Retire thread) given new =
    MatchBool (is_running (m.status thread)) (Gives (after_retire m thread) answer.Retired given new)
    (Gives m answer.Misfit given new)
IsStep m (Enter thread key valid park_token timed) given new =
    MatchBool (is_running (m.status thread))
    (MatchBool valid (Gives (after_enter m thread key park_token timed) answer.Entered given new)
    (Gives m answer.Invalid given new))
    (Gives m answer.Misfit given new)
IsStep m (Unpark op) given new = IsUnpark m op given new
IsStep m (Deadline thread) given new =
    MatchBool (awaits_deadline (m.status thread)) (Gives (with_status m thread status.Late) answer.Late given new)
    (Gives m answer.Misfit given new)
IsStep m (Resolve thread) given new = IsResolve m thread (m.status thread) given new
IsStep m (Return thread) given new = IsReturn m thread (m.status thread) given new
IsStep m (Acquire thread key) given new =
    MatchBool (is_running (m.status thread)) (IsAcquire m thread key given new) (Gives m answer.Misfit given new)
IsStep m (Release thread key) given new =
    MatchBool (is_running (m.status thread)) (Gives (after_release m thread key) answer.Released given new)
    (Gives m answer.Misfit given new)
IsStep m Trim given new = IsTrim m given new

-- an answer that is the outcome of a park
abbrev pub is_outcome : Answer → Bool
is_outcome (answer.TimedOut _ _) = true
is_outcome (answer.Unparked _) = true
is_outcome _ = false

-- whether this thread parked in a step
abbrev pub parks : ℕ → Step → Answer → Bool
parks number (Enter thread _ _ _ _) answer.Entered = thread == number
parks number _ _ = false

-- whether a step gave this thread the outcome of its park
abbrev pub ends_park : ℕ → Step → Answer → Bool
ends_park number (Resolve thread) given = is_outcome given && thread == number
ends_park number (Return thread) given = is_outcome given && thread == number
ends_park number _ given = false
