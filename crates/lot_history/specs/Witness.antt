-- Histories, their witnesses and parts as contracts see them.
use Rattle.std.specs.Prelude.{◌≡◌, ℕ, List, [], ◌∷◌}
use Rattle.atomic_table.specs.Seated.{TableId}
use Rattle.lot_machine.specs.declared.step.Answer.{Answer}
use Rattle.lot_machine.specs.declared.step.Step.{Step}
use Rattle.lot_history.specs.declared.deal.Deal.{Deal}
use Rattle.lot_history.specs.declared.event.Event.{Event}
use Rattle.lot_history.specs.declared.history.History.{History}
use Rattle.lot_history.specs.declared.history.Part.{Part}
use Rattle.lot_history.specs.declared.history.Witness.{Witness}
use Rattle.lot_history.specs.declared.view.Piece.{Piece}
use Rattle.lot_history.specs.declared.view.View.{View}
use Rattle.lot_history.specs.Views.{part_view, pieces_seen, deals_seen}
use Rattle.lot_history.specs.Tells as tells

-- which history it is, for how many threads, and below which key keys have titles
abbrev pub id_of : History → TableId
id_of history = history.table.shared.table_id

abbrev pub max_threads_of : History → ℕ
max_threads_of history = history.table.shared.key.max_threads

abbrev pub limit_of : History → ℕ
limit_of history = history.table.shared.key.limit

-- what a witness knows
abbrev pub view_of : Witness → View
view_of witness = witness.seat.me.0

-- its number, which the events that it adds have
abbrev pub number_of : Witness → ℕ
number_of witness = witness.seat.id

-- the history as far as it has seen it
abbrev pub seen_by : Witness → List Event
seen_by witness = (view_of witness).seen

-- the events that it added
abbrev pub events_of : Witness → List Event
events_of witness = (view_of witness).mine

-- the pieces that it has
abbrev pub pieces_of : Witness → List Piece
pieces_of witness = (view_of witness).pieces

-- the titles that it knows were dealt
abbrev pub deals_of : Witness → List Deal
deals_of witness = (view_of witness).deals

-- it is a witness of this history
pub record IsWitnessOf (history : History) (witness : Witness) : Type 0 where
  pub table : witness.seat.table_id ≡ id_of history
  pub slots : witness.seat.me.1 ≡ []

-- and still the one that it was
pub record IsStill (history : History) (old new : Witness) : Type 0 where
  pub witness : IsWitnessOf history new
  pub number : number_of new ≡ number_of old

-- the pieces of a part, and the titles that it knows were dealt
abbrev pub pieces_in : Part → List Piece
pieces_in part = pieces_seen part.badge.views

abbrev pub deals_in : Part → List Deal
deals_in part = deals_seen part.badge.views

-- it is a part of this history: a seat that knows of its pieces and of titles alone
pub record IsPartOf (history : TableId) (part : Part) : Type 0 where
  pub table : part.badge.table_id ≡ history
  pub view : part.badge.views ≡ part_view (pieces_in part) (deals_in part) ∷ []

-- what a call told its witness: that it made this step, or one of which this is said, or none
abbrev pub Extends : History → Witness → Step → Answer → Witness → Type 0
Extends history old step answer new =
    tells.Extends (max_threads_of history) (number_of old) (view_of old) step answer (view_of new)

abbrev pub Adds : History → Witness → (Step → Answer → Type 0) → Witness → Type 0
Adds history old said new = tells.Adds (max_threads_of history) (number_of old) said (view_of old) (view_of new)

abbrev pub Found : History → Witness → Witness → Type 0
Found history old new = tells.Found (max_threads_of history) (number_of old) (view_of old) (view_of new)

abbrev pub Looks : History → Witness → Witness → Type 0
Looks history old new = tells.Looks (max_threads_of history) (number_of old) (view_of old) (view_of new)
