-- Which state of the machine a core has, and what every core keeps.
use Rattle.std.specs.Prelude.{◌≡◌, ℕ, Bool, true, false, ◌==◌, if◌then◌else◌, IsTrue, map}
use Rattle.lot_machine.specs.declared.status.Status.{Status}
use Rattle.lot_machine.specs.declared.status.Status.TheVariants as status
use Rattle.lot_machine.specs.Machine.{Machine}
use Rattle.lot_simulator.specs.Lot.{machine}
use Rattle.lot_simulator.specs.declared.fair.fair_core.FairStatus.{FairStatus}
use Rattle.lot_simulator.specs.declared.fair.fair_core.FairStatus.TheVariants.{Free, Idle, Holding, Queued, Leaving, Handed}
use Rattle.lot_simulator.specs.declared.fair.fair_core.Holder.{Holder}
use Rattle.lot_simulator.specs.declared.fair.fair_core.Holder.TheVariants as holder
use Rattle.lot_simulator.specs.declared.fair.fair_core.TheConstants.{MUTEX_KEY, CONDVAR_KEY}
use Rattle.lot_simulator.specs.FairCoreState.{FairCoreState}
use Rattle.lot_simulator.specs.FairMachine.{FairState, IsUnlocked, IsFairConsistent}

-- whether the core has noted this number as the holder
abbrev pub is_noted : Holder → ℕ → Bool
is_noted (holder.Thread thread) number = thread == number
is_noted _ _ = false

-- what a thread does that has this status in the lot, and is noted as the holder or is not
abbrev pub fair_status : Status → Bool → FairStatus
fair_status status.Free noted = Free
fair_status status.Running noted = if noted then Holding else Idle
fair_status (status.Waiting _) noted = if noted then Leaving else Queued
fair_status status.Late noted = if noted then Leaving else Queued
fair_status (status.Taken _) noted = Handed

-- the state of the machine for which a lot's machine stands, with this holder
abbrev pub state_of : Machine → Holder → FairState
state_of m noted =
    record {
      waiters = map (λ waiter. waiter.number) (m.lists MUTEX_KEY);
      sleepers = map (λ waiter. waiter.number) (m.lists CONDVAR_KEY);
      status = λ number. fair_status (m.status number) (is_noted noted number);
      max_threads = m.max_threads;
    }

abbrev pub fair_state : FairCoreState → FairState
fair_state core = state_of (machine core.lot) core.holder

-- it holds the mutex and was not just handed it
abbrev pub keeps_hold : FairStatus → Bool
keeps_hold Holding = true
keeps_hold Leaving = true
keeps_hold _ = false

-- the note of the holder is right: at `Nobody` nobody holds the mutex; at `Taken` a thread was handed it and has not
-- returned; at `Thread` that thread is holding or leaving
abbrev pub MatchesHolder : FairState → Holder → Type 0
MatchesHolder m holder.Nobody = IsUnlocked m
MatchesHolder m holder.Taken = (number : ℕ) × (m.status number ≡ Handed)
MatchesHolder m (holder.Thread thread) = IsTrue (keeps_hold (m.status thread))

pub record IsFairCore (core : FairCoreState) : Type 0 where
  pub consistent : IsFairConsistent (fair_state core)
  pub noted : MatchesHolder (fair_state core) core.holder
