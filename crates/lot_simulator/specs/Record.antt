-- What every record keeps, and what a step on a record does.
use Rattle.std.specs.Prelude.{◌≡◌, ℕ, ◌+◌, ◌<◌, ◌≤◌, true, List, [], ◌∷◌, ◌++◌, length, Result, Ok, Err}
use Rattle.std.specs.List.{sum}
use Rattle.lot_machine.specs.declared.step.Answer.{Answer}
use Rattle.lot_machine.specs.declared.step.Answer.TheVariants as answer
use Rattle.lot_machine.specs.declared.step.Step.{Step}
use Rattle.lot_simulator.specs.Lot.{machine}
use Rattle.lot_machine.specs.Machine.{threads_of}
use Rattle.lot_machine.specs.Size.{IsSizeAfter}
use Rattle.lot_machine.specs.Steps.{IsStep}
use Rattle.lot_simulator.specs.declared.record.RecordError.{RecordError}
use Rattle.lot_simulator.specs.declared.record.RecordError.TheVariants as refused
use Rattle.lot_simulator.specs.declared.record.TheConstants.{MAX_JOURNAL}
use Rattle.lot_simulator.specs.Journal.{Entry, Replays, fits, asides_of, room_for}
use Rattle.lot_simulator.specs.RecordState.{RecordState}

-- how many entries are set aside
abbrev pub aside : RecordState → ℕ
aside record_ = sum (asides_of (machine record_.lot).max_threads record_.journal)

-- what every record keeps: the journal is a run that ends in what the lot means, and its entries with those that are
-- set aside have room
pub record IsRecord (state : RecordState) : Type 0 where
  pub replays : Replays (machine state.lot).max_threads state.journal (machine state.lot)
  pub room : length state.journal + aside state ≤ state.capacity
  pub capacity : state.capacity ≤ MAX_JOURNAL

-- the step fits, and there is no room for it
abbrev pub LacksRoom : RecordState → Step → Type 0
LacksRoom state step = (fits (machine state.lot) step ≡ true)
    × (state.capacity < length state.journal + aside state + room_for step)

-- the result of a step for an answer of the machine
abbrev pub result_for : Answer → Result Answer RecordError
result_for answer.NoMemory = Err refused.NoMemory
result_for given = Ok given

-- what is journalled of it
abbrev pub entries_for : Step → Answer → List Entry
entries_for step answer.Misfit = []
entries_for step given = (step, given) ∷ []

-- a step was refused, or it is the machine's: done, answered, and journalled, where the table's size follows the rule
abbrev pub IsRecorded : RecordState → Step → Result Answer RecordError → RecordState → Type 0
IsRecorded old step (Err refused.JournalFull) new = LacksRoom old step × (new ≡ old)
IsRecorded old step result new =
    (LacksRoom old step → ⊥) × (given : Answer) × (result ≡ result_for given)
    × IsStep (machine old.lot) step given (machine new.lot)
    × (new.journal ≡ old.journal ++ entries_for step given) × (new.capacity ≡ old.capacity)
    × IsSizeAfter step given (threads_of (machine new.lot)) (length old.lot.buckets) (length new.lot.buckets)
