-- Keys that have titles: a title tells who stands in the list of its key, and nobody changes the list without it.
use Rattle.std.specs.Prelude.{◌≡◌, ℕ, ◌+◌, ◌≤◌, ⊤, Bool, false, List, [], ◌∷◌, ◌++◌, map, Contains, Option, None, Some}
use mathlib.Core.List.{IsPrefix}
use mathlib.Core.Option.{some}
use lib.ListN.{get_elem?}
use Rattle.atomic_table.specs.Seated.{TableId}
use Rattle.atomic_table.specs.Table.{State}
use Rattle.lot_base.specs.declared.token.ParkToken.{ParkToken}
use Rattle.lot_base.specs.Place.{place_of}
use Rattle.lot_machine.specs.Machine.{Machine}
use Rattle.lot_machine.specs.declared.status.Status.TheVariants as status
use Rattle.lot_history.specs.History.{LeadsTo}
use Rattle.lot_history.specs.declared.bounds.Bounds.{Bounds}
use Rattle.lot_history.specs.declared.deal.Deal.{Deal}
use Rattle.lot_history.specs.declared.event.Event.{Event}
use Rattle.lot_history.specs.declared.view.Piece.{Piece}
use Rattle.lot_history.specs.declared.view.Piece.TheVariants.{Numbers, Thread, TitledLists, Title, Undealt, Timing}
use Rattle.lot_history.specs.declared.view.Standing.{Standing}
use Rattle.lot_history.specs.declared.view.View.{View}
use Rattle.lot_history.specs.Pieces.{title, cover, at_key, numbers_of}
use Rattle.lot_history.specs.Views.{rest_of}

-- all pieces of a new machine, where the keys below the limit have titles
abbrev pub titled_pieces : ℕ → List Piece
titled_pieces limit = TitledLists limit 1 0 [] ∷ Undealt 0 limit ∷ Numbers [] ∷ []

-- the title of the key was dealt for the table of a lock
abbrev pub deal : ℕ → TableId → Deal
deal key home = record { key = key; home = home }

-- what a seat knows that dealt the first of the titles that it has to deal
abbrev pub with_deal : ℕ → ℕ → TableId → View → View
with_deal key limit home view = record view {
  pieces = Title key [] ∷ Undealt (key + 1) limit ∷ rest_of view.pieces;
  deals = deal key home ∷ view.deals;
}

-- the title of no key was dealt for two tables
abbrev pub Agree : List Deal → Type 0
Agree deals = (one other : Deal) → Contains deals one → Contains deals other → one.key ≡ other.key
    → one.home ≡ other.home

-- the title of a key, which tells who stands in the key's list where these are the lists of the key's place
abbrev pub title_of : ℕ → List Standing → Piece
title_of key standing = Title key (map (λ each. each.number) (at_key key standing))

-- who has the lists of its place may change the list of a key that is not below the limit, where nobody has its title
-- to tell of it, or else that of the key whose title he has, which tells so
abbrev pub MayChange : ℕ → ℕ → Option (List ℕ) → Type 0
MayChange limit key None = limit ≤ key
MayChange limit key (Some told) = ⊤

-- such a title before other pieces
abbrev pub with_title : ℕ → Option (List ℕ) → List Piece → List Piece
with_title key None pieces = pieces
with_title key (Some told) pieces = Title key told ∷ pieces

-- what it tells where these are the lists of the key's place
abbrev pub retold : ℕ → List Standing → Option (List ℕ) → Option (List ℕ)
retold key standing None = None
retold key standing (Some told) = Some (map (λ each. each.number) (at_key key standing))

-- a thread as it enters the list of a key
abbrev pub entering : ℕ → ℕ → ParkToken → Bool → Standing
entering number key park_token timed =
    record { key = key; number = number; park_token = park_token; timed = timed; late = false }

-- pieces of which the first are the lists of a place, the title of a key of that place, and those of a running thread
pub record MayEnter (pieces : List Piece) (key number : ℕ) : Type 0 where
  pub limit : ℕ
  pub size : ℕ
  pub place : ℕ
  pub standing : List Standing
  pub numbers : List ℕ
  pub timed : Bool
  pub are : pieces ≡ TitledLists limit size place standing ∷ Title key numbers ∷ Thread number status.Running
      ∷ Timing number timed ∷ rest_of (rest_of (rest_of (rest_of pieces)))
  pub here : place_of key size ≡ place

-- those pieces once the thread is in the list
abbrev pub with_entry : Standing → List Piece → List Piece
with_entry each (TitledLists limit size place standing ∷ Title key numbers ∷ thread ∷ timing ∷ pieces) =
    let after = standing ++ each ∷ [] in
    TitledLists limit size place after ∷ title_of key after ∷ Timing each.number each.timed ∷ pieces
with_entry each pieces = pieces

-- the title of the key is among these pieces, and tells that these threads stand in the key's list
pub record HasTitle (pieces : List Piece) (key : ℕ) (numbers : List ℕ) : Type 0 where
  pub before : List Piece
  pub behind : List Piece
  pub stands : pieces ≡ before ++ Title key numbers ∷ behind

-- between any two steps of all threads, of what the seats know: there is one history, which begins with all that each
-- of them has seen, and leads to one machine. In it each title, with whichever seat it is, tells who stands in the list
-- of its key; no key has two titles; and none was dealt for two tables
pub record TitlesHold (max_threads : ℕ) (views : List View) : Type 0 where
  pub events : List Event
  pub machine : Machine
  pub leads : LeadsTo max_threads events machine
  pub seen : (id : ℕ) (view : View) → get_elem? views id ≡ some view → IsPrefix view.seen events
  pub tell : (id : ℕ) (view : View) (key : ℕ) (numbers : List ℕ) → get_elem? views id ≡ some view
      → HasTitle view.pieces key numbers → numbers_of (machine.lists key) ≡ numbers
  pub once : (id : ℕ) (view : View) (key : ℕ) → get_elem? views id ≡ some view → cover (title key) view.pieces ≤ 1
  pub one : (id other : ℕ) (view theirs : View) (key : ℕ) (own their : List ℕ) → get_elem? views id ≡ some view
      → get_elem? views other ≡ some theirs → HasTitle view.pieces key own → HasTitle theirs.pieces key their
      → id ≡ other
  pub home : (id other : ℕ) (view theirs : View) → get_elem? views id ≡ some view
      → get_elem? views other ≡ some theirs → Agree (view.deals ++ theirs.deals)

-- titles hold in every state of a history's table, whatever it is called with
abbrev pub TitlesHoldWhere : (Bounds → State (Unit {0}) View → Type 0) → Type 0
TitlesHoldWhere holds = (bounds : Bounds) (state : State (Unit {0}) View) → holds bounds state
    → TitlesHold bounds.max_threads state.views
