-- Histories: events, each a step of the machine with its answer and who added it. That an event is what a lot did is the
-- word of whoever adds it.
use Rattle.std.specs.Prelude.{ℕ, ◌==◌, List, map, filter}
use Rattle.lot_machine.specs.declared.step.Answer.{Answer}
use Rattle.lot_machine.specs.declared.step.Step.{Step}
use Rattle.lot_machine.specs.Machine.{Machine, new_machine}
use Rattle.lot_machine.specs.Run.{IsRun}
use Rattle.lot_machine.specs.Steps.{IsStep}
use Rattle.lot_history.specs.declared.event.Event.{Event}

-- the steps of events, and their answers
abbrev pub steps_of : List Event → List Step
steps_of events = map (λ event. event.step) events

abbrev pub answers_of : List Event → List Answer
answers_of events = map (λ event. event.answer) events

-- the steps of these events, one after another, lead from a new machine for so many threads to this one, and each
-- answers as its event says
abbrev pub LeadsTo : ℕ → List Event → Machine → Type 0
LeadsTo max_threads events last = IsRun IsStep (new_machine max_threads) (steps_of events) (answers_of events) last

-- a history: a run, from a new one, of the machine with one list for each key
abbrev pub IsHistory : ℕ → List Event → Type 0
IsHistory max_threads events = (last : Machine) × LeadsTo max_threads events last

-- the events that one witness added
abbrev pub events_by : ℕ → List Event → List Event
events_by witness events = filter (λ event. event.by == witness) events
