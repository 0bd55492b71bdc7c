-- What follows for every journal and every record.
use Rattle.std.specs.Prelude.{◌≡◌, ◌↔◌, ℕ, true, false, ◌+◌, ◌≤◌, List, length, slice_index_or}
use Rattle.lot_machine.specs.declared.step.Answer.{Answer}
use Rattle.lot_machine.specs.declared.step.Answer.TheVariants.{Misfit}
use Rattle.lot_machine.specs.declared.step.Step.{Step}
use Rattle.lot_machine.specs.declared.step.Step.TheVariants.{Deadline, Resolve, Return}
use Rattle.lot_machine.specs.Machine.{Machine}
use Rattle.lot_machine.specs.Status.{is_parked, awaits_deadline}
use Rattle.lot_machine.specs.Steps.{IsStep}
use Rattle.lot_machine.specs.Totals.{taken_threads_of}
use Rattle.lot_simulator.specs.Journal.{Entry, Replays, fits, asides_of, woken_in, unparked_total}
use Rattle.lot_simulator.specs.RecordState.{RecordState}
use Rattle.lot_simulator.specs.Record.{IsRecord, LacksRoom}

-- a step is answered by `Misfit` exactly where it does not fit
abbrev pub MisfitsDoNotFit : Type 0
MisfitsDoNotFit = (m : Machine) (step : Step) (given : Answer) (new : Machine) → IsStep m step given new
    → (fits m step ≡ false) ↔ (given ≡ Misfit)

-- while a park has no outcome, an entry is set aside for that, and one more while its deadline may pass
abbrev pub ParksHaveEntries : Type 0
ParksHaveEntries = (max_threads : ℕ) (journal : List Entry) (m : Machine) (number : ℕ)
    → Replays max_threads journal m →
    (is_parked (m.status number) ≡ true → 1 ≤ slice_index_or (asides_of max_threads journal) number 0)
    × (awaits_deadline (m.status number) ≡ true → 2 ≤ slice_index_or (asides_of max_threads journal) number 0)

-- so a deadline and the end of a park never lack room
abbrev pub EndsHaveRoom : Type 0
EndsHaveRoom = (state : RecordState) (thread : ℕ) → IsRecord state →
    (LacksRoom state (Deadline thread) → ⊥) × (LacksRoom state (Resolve thread) → ⊥)
    × (LacksRoom state (Return thread) → ⊥)

-- the threads that a journal's unparks unparked are as many as those that have come back and those that are left taken
abbrev pub UnparkedAreWokenOrTaken : Type 0
UnparkedAreWokenOrTaken = (max_threads : ℕ) (journal : List Entry) (m : Machine) → Replays max_threads journal m
    → unparked_total journal ≡ woken_in journal + taken_threads_of m

-- no total of a record's journal is above the journal's room
abbrev pub TotalsHaveRoom : Type 0
TotalsHaveRoom = (state : RecordState) → IsRecord state → (length state.journal ≤ state.capacity)
    × (woken_in state.journal ≤ state.capacity) × (unparked_total state.journal ≤ state.capacity)
