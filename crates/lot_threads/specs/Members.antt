-- Members of a lot, and what their calls add to its history.
use Rattle.std.specs.Prelude.{◌≡◌, ℕ, ◌<◌, Bool, true, false, List, [], ◌∷◌, Option, Some, None, IsSomeAnd, Box}
use Rattle.std.specs.Prelude.{Result, Vec, IfOk, OnErr, IsTrue, map}
use Rattle.std.specs.declared.alloc.Global.{Global}
use Rattle.lot_base.specs.Node.{fields}
use Rattle.lot_base.specs.NodeFields.{NodeFields}
use Rattle.lot_base.specs.declared.queue.Node.{Node}
use Rattle.lot_base.specs.Waiting.{has_any}
use Rattle.lot_base.specs.declared.token.NoMemory.{NoMemory}
use Rattle.lot_base.specs.declared.token.ParkResult.{ParkResult}
use Rattle.lot_base.specs.declared.token.ParkResult.TheVariants as result
use Rattle.lot_base.specs.declared.token.ParkToken.{ParkToken}
use Rattle.lot_base.specs.declared.token.UnparkToken.{UnparkToken}
use Rattle.lot_machine.specs.declared.status.Status.TheVariants.{Running}
use Rattle.lot_machine.specs.declared.step.Answer.{Answer}
use Rattle.lot_machine.specs.declared.step.Answer.TheVariants.{Registered, Full, Entered, Invalid, Unparked}
use Rattle.lot_machine.specs.declared.step.Answer.TheVariants.{Late, TimedOut}
use Rattle.lot_machine.specs.declared.step.Step.{Step}
use Rattle.lot_machine.specs.declared.step.Step.TheVariants.{Register, Enter, Return, Deadline, Resolve}
use Rattle.lot_history.specs.declared.history.History.{History}
use Rattle.lot_history.specs.declared.history.Part.{Part}
use Rattle.lot_history.specs.declared.history.Witness.{Witness}
use Rattle.lot_history.specs.declared.view.Piece.{Piece}
use Rattle.lot_history.specs.declared.view.Piece.TheVariants.{Thread, Records, Timing}
use Rattle.lot_history.specs.Witness.{Extends, Looks, IsStill, IsWitnessOf, events_of, max_threads_of, pieces_of}
use Rattle.lot_threads.specs.declared.told.Entry.{Entry}
use Rattle.lot_threads.specs.Cells.{Has, HasTiming}

-- this step, with this answer
abbrev pub Is : Step → Answer → Step → Answer → Type 0
Is step answer s a = (s ≡ step) × (a ≡ answer)

-- a thread comes to a list, and is let in or not
abbrev pub entry_step : Entry → Bool → Step
entry_step entry valid = Enter entry.number entry.key valid entry.park_token entry.timed

-- what the thread of a node enters with
abbrev pub entry_of : NodeFields → Entry
entry_of node = record { number = node.number; key = node.key; park_token = node.park_token; timed = node.timed }

-- a member: the history of its lot, its number, the keys that it has recorded, and its witness, whose events its calls
-- added
pub record MemberState : Type 0 where
  pub history : History
  pub number : ℕ
  pub records : List ℕ
  pub witness : Witness

-- the data of a registered thread: its number, the keys that it has recorded, and its witness
pub record ThreadDataState : Type 0 where
  pub number : ℕ
  pub records : List ℕ
  pub witness : Witness

-- the data of a thread that runs has its node, and the pieces that say so
pub record IsThreadData (own : ℕ) (node : Option (Box Node Global)) (keys : List ℕ)
    (thread records timing : Part) (witness : Witness) : Type 0 where
  pub has_node : IsSomeAnd node (λ held. (fields held.value).number ≡ own)
  pub runs : Has witness.seat.table_id (Thread own Running ∷ []) thread
  pub has_recorded : Has witness.seat.table_id (Records own keys ∷ []) records
  pub has_timing : HasTiming witness.seat.table_id own timing
  pub no_pieces : pieces_of witness ≡ []

-- the data is that of a thread of the lot that has this history
pub record IsDataOf (history : History) (thread : ThreadDataState) : Type 0 where
  pub of_history : IsWitnessOf history thread.witness
  pub below : thread.number < max_threads_of history

-- the thread of this data as a member of the lot
abbrev pub member_of : History → ThreadDataState → MemberState
member_of history thread =
    record { history = history; number = thread.number; records = thread.records; witness = thread.witness }

-- a witness of the history, whose first event is this
pub record Begins (history : History) (step : Step) (answer : Answer) (witness : Witness) : Type 0 where
  pub from : Witness
  pub of_history : IsWitnessOf history from
  pub nothing_added : events_of from ≡ []
  pub still : IsStill history from witness
  pub extends : Extends history from step answer witness

-- the number of the node that a registration gave, if it did
abbrev pub number_in : Option (Box Node Global) → Option ℕ
number_in None = None
number_in (Some held) = Some (fields held.value).number

-- what a registration answers that gave this number, or none, and the pieces of the thread then
abbrev pub answer_for : Option ℕ → Answer
answer_for None = Full
answer_for (Some number) = Registered number

abbrev pub pieces_for : Option ℕ → List Piece
pieces_for None = []
pieces_for (Some number) = Thread number Running ∷ Records number [] ∷ Timing number false ∷ []

-- the new witness told of the registration, and has the thread's pieces
pub record IsRegistered (history : History) (number : Option ℕ) (witness : Witness) : Type 0 where
  pub of_history : IsWitnessOf history witness
  pub begins : Begins history Register (answer_for number) witness
  pub pieces : pieces_of witness ≡ pieces_for number

-- the same member, whatever it has recorded
pub record IsSame (old new : MemberState) : Type 0 where
  pub history : new.history ≡ old.history
  pub number : new.number ≡ old.number
  pub witness : IsStill old.history old.witness new.witness

-- the same member, with the same records
pub record Stays (old new : MemberState) : Type 0 where
  pub history : new.history ≡ old.history
  pub number : new.number ≡ old.number
  pub records : new.records ≡ old.records
  pub witness : IsStill old.history old.witness new.witness

-- a call of the member made this step
abbrev pub Makes : MemberState → Step → Answer → MemberState → Type 0
Makes old step answer new = Extends old.history old.witness step answer new.witness

-- the history was seen, and the numbers are those of the threads that stand in the list of the key, in order, in the
-- machine that it leads to; or memory is wanting, and somebody stands there
pub record IsListed (history : History) (key : ℕ) (old new : Witness) (given : Result (Vec ℕ Global) NoMemory)
    : Type 0 where
  pub looks : Looks history old new
  pub numbers : IfOk given (λ list. list.items ≡ map (λ waiter. waiter.number) (looks.machine.lists key))
  pub refused : OnErr given (IsTrue (has_any (looks.machine.lists key)))

-- the step of a thread that comes to park
abbrev pub park_step : MemberState → ℕ → ParkToken → Bool → Bool → Step
park_step member key park_token timed valid = Enter member.number key valid park_token timed

-- a park that was not let in added that
abbrev pub IsRefused : MemberState → ℕ → ParkToken → Bool → MemberState → Type 0
IsRefused old key park_token timed new =
    Extends old.history old.witness (park_step old key park_token timed false) Invalid new.witness

-- one that was let in added that, and, once it was unparked, that it came back with its token
pub record ComesBack (old : MemberState) (key : ℕ) (park_token : ParkToken) (timed : Bool) (token : UnparkToken)
    (new : MemberState) : Type 0 where
  pub entered : Witness
  pub still : IsStill old.history old.witness entered
  pub enters : Extends old.history old.witness (park_step old key park_token timed true) Entered entered
  pub returns : Extends old.history entered (Return old.number) (Unparked token) new.witness

-- a thread that stands in the list of the key with a timeout added that its deadline passed, and that it left the list
pub record Leaves (history : History) (number key : ℕ) (last : Bool) (old new : Witness) : Type 0 where
  pub late : Witness
  pub still : IsStill history old late
  pub passes : Extends history old (Deadline number) Late late
  pub resolves : Extends history late (Resolve number) (TimedOut key last) new

-- one that was let in with a timeout added that, and, once the deadline had passed, that it left the list where it stood
-- then, which is of another key if it was requeued
pub record TimesOut (old : MemberState) (key : ℕ) (park_token : ParkToken) (left : ℕ) (last : Bool)
    (new : MemberState) : Type 0 where
  pub entered : Witness
  pub still : IsStill old.history old.witness entered
  pub enters : Extends old.history old.witness (park_step old key park_token true true) Entered entered
  pub leaves : Leaves old.history old.number left last entered new.witness

-- how a park ends, by what `validate` answered: with a timeout also so that `timed_out` was called with the key that it
-- left and whether nobody else waits there
module _ (asked : Bool → Type 0) (called : Type 0) (told : ℕ → Bool → Type 0) (old : MemberState) (key : ℕ)
    (park_token : ParkToken) (timed : Bool) where
  abbrev pub IsParked : ParkResult → MemberState → Type 0
  IsParked result.Invalid new = asked false × IsRefused old key park_token timed new
  IsParked (result.Unparked token) new = asked true × called × ComesBack old key park_token timed token new
  IsParked result.TimedOut new = (timed ≡ true) × asked true × called
      × ((left : ℕ) × (last : Bool) × told left last × TimesOut old key park_token left last new)
