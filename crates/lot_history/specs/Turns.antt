-- First come, first out.
use Rattle.std.specs.Prelude.{◌≡◌, ℕ, ◌==◌, Bool, true, false, ◌&&◌, ◌⊎◌, List, [], ◌∷◌, ◌++◌, All}
use Rattle.lot_base.specs.declared.token.UnparkToken.{UnparkToken}
use Rattle.lot_machine.specs.declared.step.Answer.{Answer}
use Rattle.lot_machine.specs.declared.step.Answer.TheVariants.{Entered, TimedOut}
use Rattle.lot_machine.specs.declared.step.Op.{Op}
use Rattle.lot_machine.specs.declared.step.Op.TheVariants.{One, All as AllOf, Filter, Requeue}
use Rattle.lot_machine.specs.declared.step.Step.{Step}
use Rattle.lot_machine.specs.declared.step.Step.TheVariants.{Enter, Unpark, Resolve}
use Rattle.lot_machine.specs.Machine.{Machine, Waiter}
use Rattle.lot_machine.specs.Operation.{token_of}
use Rattle.lot_history.specs.declared.event.Event.{Event}
use Rattle.lot_history.specs.History.{LeadsTo}
use Rattle.lot_history.specs.Laws.{Hands}
use Rattle.lot_history.specs.Pieces.{numbers_of}
use Rattle.lot_history.specs.Takings.{taken_by}

-- whether the thread entered the list of this key in a step
abbrev pub enters : ℕ → ℕ → Step → Answer → Bool
enters number key (Enter thread k valid park_token timed) Entered = thread == number && k == key
enters number key _ _ = false

-- whether an unpark is one of one or of all of this key, which take from the front of its list
abbrev pub takes_from_front : ℕ → Op → Bool
takes_from_front key (One k token) = k == key
takes_from_front key (AllOf k token) = k == key
takes_from_front key _ = false

-- whether a thread may lose its turn at a key: by a filter of the key, by a requeue from it, or as it times out there
abbrev pub may_lose_turn : ℕ → ℕ → Step → Answer → Bool
may_lose_turn number key (Unpark (Filter k decisions token)) given = k == key
may_lose_turn number key (Unpark (Requeue from to op token)) given = from == key
may_lose_turn number key (Resolve thread) (TimedOut k last) = thread == number && k == key
may_lose_turn number key _ _ = false

-- it keeps its turn in these events
abbrev pub KeepsTurn : ℕ → ℕ → List Event → Type 0
KeepsTurn number key events = All (λ event. may_lose_turn number key event.step event.answer ≡ false) events

-- among the events `since`, which follow those before, an unpark of one or of all of the key took the thread
pub record WasTaken (max_threads : ℕ) (before since : List Event) (number key : ℕ) : Type 0 where
  pub earlier : List Event
  pub unpark : Event
  pub later : List Event
  pub stands : since ≡ earlier ++ unpark ∷ later
  pub op : Op
  pub is_unpark : unpark.step ≡ Unpark op
  pub of_key : takes_from_front key op ≡ true
  pub machine : Machine
  pub found : LeadsTo max_threads (before ++ earlier) machine
  pub hands : Hands machine op number (token_of op)

-- the first of two threads stands in front of the second
pub record StandsInFront (first second : ℕ) (waiters : List Waiter) : Type 0 where
  pub front : List ℕ
  pub between : List ℕ
  pub behind : List ℕ
  pub stand : numbers_of waiters ≡ front ++ first ∷ (between ++ second ∷ behind)

-- first come, first out: two threads enter the list of a key, and the first keeps its turn. Where an unpark of one or of
-- all of the key takes the second then, such an unpark took the first before, or this one takes it too, in front
abbrev pub FirstComeFirstOut : Type 0
FirstComeFirstOut = (max_threads first second key : ℕ) (before : List Event) (one : Event) (between : List Event)
    (two : Event) (since : List Event) (m : Machine) (op : Op) (token : UnparkToken)
    → LeadsTo max_threads (before ++ one ∷ (between ++ two ∷ since)) m
    → enters first key one.step one.answer ≡ true → enters second key two.step two.answer ≡ true
    → KeepsTurn first key (between ++ two ∷ since) → takes_from_front key op ≡ true → Hands m op second token
    → WasTaken max_threads (before ++ one ∷ []) (between ++ two ∷ since) first key
    ⊎ StandsInFront first second (taken_by op m)
