-- Whom the unparks of a history take, and what becomes of them.
use Rattle.std.specs.Prelude.{◌≡◌, ℕ, ◌≤◌, if◌then◌else◌, List, [], ◌∷◌, ◌++◌, length, Option, None, Some, MatchOption}
use Rattle.std.specs.Prelude.{IsTrue}
use Rattle.lot_base.specs.declared.token.UnparkToken.{UnparkToken}
use Rattle.lot_machine.specs.declared.status.Status.TheVariants.{Taken}
use Rattle.lot_machine.specs.declared.step.Answer.{Answer}
use Rattle.lot_machine.specs.declared.step.Answer.TheVariants.{Unparked}
use Rattle.lot_machine.specs.declared.step.Op.{Op}
use Rattle.lot_machine.specs.declared.step.Step.TheVariants.{Unpark}
use Rattle.lot_machine.specs.Machine.{Machine, Waiter, times_in}
use Rattle.lot_machine.specs.Operation.{split_of, token_of}
use Rattle.lot_machine.specs.Status.{is_queued}
use Rattle.lot_machine.specs.Steps.{ends_park}
use Rattle.lot_machine.specs.Totals.{unparked_by}
use Rattle.lot_history.specs.declared.event.Event.{Event}
use Rattle.lot_history.specs.History.{LeadsTo}
use Rattle.lot_history.specs.Laws.{Hands}

-- whom an unpark takes, in order: that of all of a key takes its whole list, that of one the first in it
abbrev pub taken_by : Op → Machine → List Waiter
taken_by op m = (split_of op m.lists).taken

-- the answer of the first of these events that is the outcome of a park of the thread
abbrev pub first_outcome : ℕ → List Event → Option Answer
first_outcome number [] = None
first_outcome number (event ∷ events) =
    if ends_park number event.step event.answer then Some event.answer else first_outcome number events

-- the first outcome of the thread among these events is `Unparked` with the token; or it has none among them, and is
-- on its way with the token in the machine to which they lead
abbrev pub ComesBackWith : ℕ → UnparkToken → List Event → Machine → Type 0
ComesBackWith number token events last =
    MatchOption (first_outcome number events) (last.status number ≡ Taken token) (λ given. given ≡ Unparked token)

-- an unpark in a history, the machine that it finds and the next: whom it takes, and what becomes of them up to the
-- last machine
pub record Taking (max_threads : ℕ) (before : List Event) (event : Event) (after : List Event) (last : Machine)
    (op : Op) : Type 0 where
  pub machine : Machine
  pub found : LeadsTo max_threads before machine
  pub next : Machine
  pub leaves : LeadsTo max_threads (before ++ event ∷ []) next
  -- it takes as many threads as it answers, each once
  pub many : length (taken_by op machine) ≡ unparked_by event.answer
  pub once : (number : ℕ) → times_in number (taken_by op machine) ≤ 1
  -- each of them waited or was late, and comes back with the token that it was handed
  pub waited : (number : ℕ) (token : UnparkToken) → Hands machine op number token
      → IsTrue (is_queued (machine.status number))
  pub back : (number : ℕ) (token : UnparkToken) → Hands machine op number token
      → ComesBackWith number token after last
  -- and no other's status is changed by it
  pub others : (number : ℕ) → (Hands machine op number (token_of op) → ⊥) → next.status number ≡ machine.status number

-- whoever an unpark of a history took, be it of one, of all, by a filter or a requeue, comes back with its token
abbrev pub TakenThreadsComeBack : Type 0
TakenThreadsComeBack = (max_threads : ℕ) (before : List Event) (event : Event) (after : List Event) (last : Machine)
    (op : Op) → LeadsTo max_threads (before ++ event ∷ after) last → event.step ≡ Unpark op
    → Taking max_threads before event after last op
