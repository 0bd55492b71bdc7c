-- What holds of the history and of all seats between any two steps.
use Rattle.std.specs.Prelude.{◌≡◌, ℕ, ◌-◌, ◌<◌, ◌≤◌, ◌^◌, List, [], length, All, Option, Some, None}
use mathlib.Core.List.{IsPrefix}
use mathlib.Core.Option.{some}
use lib.ListN.{get_elem?}
use Rattle.atomic_table.specs.Seated.{TableId}
use Rattle.lot_machine.specs.Machine.{Machine, IsConsistent}
use Rattle.lot_history.specs.declared.deal.Deal.{Deal}
use Rattle.lot_history.specs.declared.event.Event.{Event}
use Rattle.lot_history.specs.declared.view.View.{View}
use Rattle.lot_history.specs.History.{LeadsTo, events_by}
use Rattle.lot_history.specs.Pieces.{Name, dealing, cover, AllSo}

-- the title of the key was dealt for this table, where those that were dealt are these
abbrev pub IsDealt : (ℕ → Option TableId) → Deal → Type 0
IsDealt homes deal = homes deal.key ≡ Some deal.home

-- what a seat knows is so, of the events so far and the machine that they lead to, where each name has one owner, and
-- titles were dealt for these tables
pub record Knows (events : List Event) (m : Machine) (owner : Name → ℕ) (homes : ℕ → Option TableId) (id : ℕ)
    (view : View) : Type 0 where
  pub seen : IsPrefix view.seen events
  pub heard : IsPrefix view.heard events
  pub mine : events_by id events ≡ view.mine
  pub owns : (name : Name) → 0 < cover name view.pieces → owner name ≡ id
  pub once : (name : Name) → cover name view.pieces ≤ 1
  pub pieces : AllSo m view.pieces
  pub deals : All (IsDealt homes) view.deals
  pub undealt : (key : ℕ) → 0 < cover (dealing key) view.pieces → homes key ≡ None

-- there is one history for so many threads, of which all that the seats know is so; and no other has added an event
pub record Kept (max_threads : ℕ) (views : List View) : Type 0 where
  pub events : List Event
  pub machine : Machine
  pub owner : Name → ℕ
  pub homes : ℕ → Option TableId
  pub run : LeadsTo max_threads events machine
  pub few : max_threads ≤ 2 ^ 64 - 1
  pub threads : machine.max_threads ≡ max_threads
  pub consistent : IsConsistent machine
  pub each : (id : ℕ) (view : View) → get_elem? views id ≡ some view → Knows events machine owner homes id view
  pub others : (id : ℕ) → length views ≤ id → events_by id events ≡ []
