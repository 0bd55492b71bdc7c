-- The steps of the machine of a fair mutex, a rule each. `answer.` stands before the variants of `FairAnswer`.
use Rattle.std.specs.Prelude.{◌≡◌, ℕ, Bool, true, false, MatchBool, ◌⊎◌}
use Rattle.lot_base.specs.declared.token.RequeueOp.{RequeueOp}
use Rattle.lot_base.specs.declared.token.RequeueOp.TheVariants.{Abort, UnparkOneRequeueRest, RequeueAll, UnparkOne}
use Rattle.lot_base.specs.declared.token.RequeueOp.TheVariants.{RequeueOne}
use Rattle.lot_base.specs.Waiting.{Split, split_by, requeue_result, has_any}
use Rattle.lot_simulator.specs.declared.fair.fair_core.FairStatus.{FairStatus}
use Rattle.lot_simulator.specs.declared.fair.fair_core.FairStatus.TheVariants.{Free, Idle, Holding, Leaving, Handed}
use Rattle.lot_simulator.specs.declared.fair.schedule.FairAnswer.{FairAnswer}
use Rattle.lot_simulator.specs.declared.fair.schedule.FairAnswer.TheVariants as answer
use Rattle.lot_simulator.specs.declared.fair.schedule.FairStep.{FairStep}
use Rattle.lot_simulator.specs.declared.fair.schedule.FairStep.TheVariants.{Register, Retire, Lock, Unlock, Return, Wait}
use Rattle.lot_simulator.specs.declared.fair.schedule.FairStep.TheVariants.{Leave, NotifyOne, NotifyAll}
use Rattle.lot_simulator.specs.FairMachine.{FairState, IsLocked, IsUnlocked, IsLeastFree, IsFull, with_status}
use Rattle.lot_simulator.specs.FairMachine.{after_queue, after_wait, after_release, after_notify}

-- what the status of a thread has to be, so that its step fits
abbrev pub is_idle : FairStatus → Bool
is_idle Idle = true
is_idle _ = false

abbrev pub is_holding : FairStatus → Bool
is_holding Holding = true
is_holding _ = false

abbrev pub is_leaving : FairStatus → Bool
is_leaving Leaving = true
is_leaving _ = false

abbrev pub is_handed : FairStatus → Bool
is_handed Handed = true
is_handed _ = false

-- the step should give the answer `expected` and leave the state `after`: it gave `given` and left `new`
abbrev pub Gives : FairState → FairAnswer → FairAnswer → FairState → Type 0
Gives after expected given new = (given ≡ expected) × (new ≡ after)

-- a step fits: it does what its rule says; or it does not, which is answered by `Misfit`, and changes nothing
abbrev pub IfFits : Bool → Type 0 → FairState → FairAnswer → FairState → Type 0
IfFits fits rule m given new = MatchBool fits rule (Gives m answer.Misfit given new)

-- Register: the least free number is idle; or there is no free number; memory may be refused only where there is one
abbrev pub IsRegister : FairState → FairAnswer → FairState → Type 0
IsRegister m (answer.Registered number) new = IsLeastFree m number × (new ≡ with_status m number Idle)
IsRegister m answer.Full new = IsFull m × (new ≡ m)
IsRegister m answer.NoMemory new = (IsFull m → ⊥) × (new ≡ m)
IsRegister m _ new = ⊥

-- Retire, of an idle thread
abbrev pub IsRetire : FairState → ℕ → FairAnswer → FairState → Type 0
IsRetire m thread given new = Gives (with_status m thread Free) answer.Retired given new

-- Lock, of an idle thread: it holds the mutex if nobody did, and else queues for it
abbrev pub IsLock : FairState → ℕ → FairAnswer → FairState → Type 0
IsLock m thread answer.Locked new = IsUnlocked m × (new ≡ with_status m thread Holding)
IsLock m thread answer.Queued new = IsLocked m × (new ≡ after_queue m thread)
IsLock m thread _ new = ⊥

-- Unlock, of a holding thread, and Leave, of a leaving one: the first waiter, if there is one, has the mutex
abbrev pub IsRelease : FairState → ℕ → FairAnswer → FairState → Type 0
IsRelease m thread given new = Gives (after_release m thread) (answer.Unlocked (has_any m.waiters)) given new

-- Wait, of a holding thread
abbrev pub IsWait : FairState → ℕ → FairAnswer → FairState → Type 0
IsWait m thread given new = Gives (after_wait m thread) answer.Waiting given new

-- Return, of a thread that was handed the mutex
abbrev pub IsReturn : FairState → ℕ → FairAnswer → FairState → Type 0
IsReturn m thread given new = Gives (with_status m thread Holding) answer.Locked given new

-- a notify, which requeues from the condition variable to the mutex by this operation
abbrev pub IsNotifyBy : FairState → RequeueOp → FairAnswer → FairState → Type 0
IsNotifyBy m op given new =
    let split : Split ℕ = split_by op m.sleepers in
    Gives (after_notify m op) (answer.Notified (requeue_result op split)) given new

-- NotifyOne and NotifyAll: by one operation if nobody holds the mutex, and else by another
abbrev pub IsNotify : FairState → RequeueOp → RequeueOp → FairAnswer → FairState → Type 0
IsNotify m unlocked locked given new =
    (IsUnlocked m × IsNotifyBy m unlocked given new) ⊎ (IsLocked m × IsNotifyBy m locked given new)

-- where a notify may use which operation: it hands the mutex to a thread only where nobody holds it
abbrev pub FitsNotify : FairState → RequeueOp → Type 0
FitsNotify m Abort = ⊥
FitsNotify m UnparkOneRequeueRest = IsUnlocked m
FitsNotify m RequeueAll = IsLocked m
FitsNotify m UnparkOne = IsUnlocked m
FitsNotify m RequeueOne = IsLocked m

-- one step: the state before, the step, its answer and the state after. A state is never both locked and unlocked, so a
-- step has one answer at most, but that a registration where a number is free may be `NoMemory` too, and step and
-- answer fix the state. That a step of a core has one is the contract of `FairCore::apply`; no law says it of every
-- state
abbrev pub IsFairStep : FairState → FairStep → FairAnswer → FairState → Type 0
IsFairStep m Register given new = IsRegister m given new
IsFairStep m (Retire thread) given new =
    IfFits (is_idle (m.status thread)) (IsRetire m thread given new) m given new
IsFairStep m (Lock thread) given new = IfFits (is_idle (m.status thread)) (IsLock m thread given new) m given new
IsFairStep m (Unlock thread) given new =
    IfFits (is_holding (m.status thread)) (IsRelease m thread given new) m given new
IsFairStep m (Return thread) given new =
    IfFits (is_handed (m.status thread)) (IsReturn m thread given new) m given new
IsFairStep m (Wait thread) given new = IfFits (is_holding (m.status thread)) (IsWait m thread given new) m given new
IsFairStep m (Leave thread) given new =
    IfFits (is_leaving (m.status thread)) (IsRelease m thread given new) m given new
IsFairStep m NotifyOne given new = IsNotify m UnparkOne RequeueOne given new
IsFairStep m NotifyAll given new = IsNotify m UnparkOneRequeueRest RequeueAll given new
