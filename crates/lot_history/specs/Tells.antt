-- What a call tells, of what its caller knew before and knows then. It is of the history for so many threads, and of the
-- seat with this number.
use Rattle.std.specs.Prelude.{◌≡◌, ℕ, List, [], ◌∷◌, ◌++◌}
use mathlib.Core.List.{IsPrefix}
use Rattle.lot_machine.specs.declared.step.Answer.{Answer}
use Rattle.lot_machine.specs.declared.step.Step.{Step}
use Rattle.lot_machine.specs.Machine.{Machine}
use Rattle.lot_history.specs.declared.event.Event.{Event}
use Rattle.lot_history.specs.declared.view.View.{View}
use Rattle.lot_history.specs.History.{IsHistory, LeadsTo, events_by}
use Rattle.lot_history.specs.Pieces.{AllSo}

-- a step with its answer, as the seat with this number added it
abbrev pub event : ℕ → Step → Answer → Event
event number step answer = record { by = number; step = step; answer = answer }

module _ (max_threads number : ℕ) where
  -- the call made this step: what is seen then begins with all that was seen before, ends with the step, and is a
  -- history; and of the seat's own events it has those before, this one, and no others
  pub record Extends (old : View) (step : Step) (answer : Answer) (new : View) : Type 0 where
    pub between : List Event
    pub seen : new.seen ≡ (old.seen ++ between) ++ event number step answer ∷ []
    pub mine : new.mine ≡ old.mine ++ event number step answer ∷ []
    pub all_mine : events_by number new.seen ≡ new.mine
    pub history : IsHistory max_threads new.seen

  -- the call made one step, of which this is said
  pub record Adds (said : Step → Answer → Type 0) (old new : View) : Type 0 where
    pub step : Step
    pub answer : Answer
    pub is_said : said step answer
    pub extends : Extends old step answer new

  -- the call made a step that found this machine, which was as the pieces said
  pub record Found (old new : View) : Type 0 where
    pub before : List Event
    pub last : Event
    pub machine : Machine
    pub begins : IsPrefix old.seen before
    pub seen : new.seen ≡ before ++ last ∷ []
    pub leads : LeadsTo max_threads before machine
    pub so : AllSo machine old.pieces

  -- the call made no step: what is seen then is a history, and begins with all that was seen before; it leads to a
  -- machine which is as the pieces say; and of the seat's own events it has those before and no others
  pub record Looks (old new : View) : Type 0 where
    pub machine : Machine
    pub seen : IsPrefix old.seen new.seen
    pub mine : new.mine ≡ old.mine
    pub all_mine : events_by number new.seen ≡ new.mine
    pub history : LeadsTo max_threads new.seen machine
    pub so : AllSo machine new.pieces
    pub pieces : new.pieces ≡ old.pieces
