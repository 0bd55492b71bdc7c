-- What holds of every history.
use Rattle.std.specs.Prelude.{◌≡◌, ◌≢◌, ℕ, ◌+◌, true, false, List, [], ◌∷◌, ◌++◌, All}
use Rattle.std.specs.List.{sum_by}
use Rattle.lot_base.specs.declared.token.UnparkToken.{UnparkToken}
use Rattle.lot_base.specs.Waiting.{has_any}
use Rattle.lot_machine.specs.declared.step.Answer.{Answer}
use Rattle.lot_machine.specs.declared.step.Answer.TheVariants.{Unparked, NoMemory}
use Rattle.lot_machine.specs.declared.step.Op.{Op}
use Rattle.lot_machine.specs.declared.step.Step.TheVariants.{Unpark}
use Rattle.lot_machine.specs.Machine.{Machine, entries_of, new_machine}
use Rattle.lot_machine.specs.Operation.{split_of, token_of}
use Rattle.lot_machine.specs.Run.{IsRun, OutcomesAlternate}
use Rattle.lot_machine.specs.Steps.{IsStep, parks, ends_park}
use Rattle.lot_machine.specs.Totals.{unparked_by, returned_by, taken_threads_of}
use Rattle.lot_history.specs.declared.event.Event.{Event}
use Rattle.lot_history.specs.History.{LeadsTo, IsHistory, steps_of, answers_of}

-- a history leads to one machine
abbrev pub EachLeadsToOneMachine : Type 0
EachLeadsToOneMachine = (max_threads : ℕ) (events : List Event) (machine other : Machine)
    → LeadsTo max_threads events machine → LeadsTo max_threads events other → machine ≡ other

-- and each beginning of a history is a history
abbrev pub BeginningsAreHistories : Type 0
BeginningsAreHistories = (max_threads : ℕ) (events more : List Event) → IsHistory max_threads (events ++ more)
    → IsHistory max_threads events

-- none of these answers refuses a step for want of memory
abbrev pub HaveMemory : List Answer → Type 0
HaveMemory answers = All (λ given. given ≢ NoMemory) answers

-- a history can be replayed: a run of its steps from a new machine gives its answers and leads to where it leads, if
-- memory was wanting in neither
abbrev pub HistoriesCanBeReplayed : Type 0
HistoriesCanBeReplayed = (max_threads : ℕ) (events : List Event) (machine : Machine) (answers : List Answer)
    (last : Machine) → LeadsTo max_threads events machine
    → IsRun IsStep (new_machine max_threads) (steps_of events) answers last → HaveMemory (answers_of events)
    → HaveMemory answers → (answers ≡ answers_of events) × (last ≡ machine)

-- in a history each thread's parks and their outcomes take turns, and a park comes first
abbrev pub ParksAndOutcomesAlternate : Type 0
ParksAndOutcomesAlternate = (max_threads : ℕ) (events : List Event) → IsHistory max_threads events → (number : ℕ)
    → OutcomesAlternate (parks number) (ends_park number) false (steps_of events) (answers_of events)

-- the threads that the unparks of a history took are as many as those that came back and those that are still taken at
-- its end
abbrev pub UnparkedThreadsComeBack : Type 0
UnparkedThreadsComeBack = (max_threads : ℕ) (events : List Event) (last : Machine) → LeadsTo max_threads events last
    → sum_by unparked_by (answers_of events) ≡ sum_by returned_by (answers_of events) + taken_threads_of last

-- the unpark takes this thread, and hands it this token
pub record Hands (m : Machine) (op : Op) (number : ℕ) (token : UnparkToken) : Type 0 where
  pub hands : token_of op ≡ token
  pub takes : has_any (entries_of number (split_of op m.lists).taken) ≡ true

-- none of these events is the outcome of a park of the thread
abbrev pub HaveNoOutcome : ℕ → List Event → Type 0
HaveNoOutcome number events = All (λ event. ends_park number event.step event.answer ≡ false) events

-- among these events an unpark handed the thread this token, and since then its park has had no outcome
pub record WasHanded (max_threads : ℕ) (events : List Event) (number : ℕ) (token : UnparkToken) : Type 0 where
  pub before : List Event
  pub unpark : Event
  pub since : List Event
  pub stands : events ≡ before ++ unpark ∷ since
  pub op : Op
  pub is_unpark : unpark.step ≡ Unpark op
  pub machine : Machine
  pub found : LeadsTo max_threads before machine
  pub hands : Hands machine op number token
  pub no_outcome : HaveNoOutcome number since

-- where a park ends unparked with a token, an unpark had handed it this token, and no outcome came between
abbrev pub TokensComeFromUnparks : Type 0
TokensComeFromUnparks = (max_threads number : ℕ) (token : UnparkToken) (events : List Event) (event : Event)
    → IsHistory max_threads (events ++ event ∷ []) → ends_park number event.step event.answer ≡ true
    → event.answer ≡ Unparked token → WasHanded max_threads events number token
