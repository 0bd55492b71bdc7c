-- What seats know at first, and how views are cut in two and joined.
use Rattle.std.specs.Prelude.{List, [], ◌∷◌}
use Rattle.lot_history.specs.declared.deal.Deal.{Deal}
use Rattle.lot_history.specs.declared.event.Event.{Event}
use Rattle.lot_history.specs.declared.view.Piece.{Piece}
use Rattle.lot_history.specs.declared.view.Piece.TheVariants.{Lists, Numbers}
use Rattle.lot_history.specs.declared.view.View.{View}

-- all pieces of a new machine: the lists of all keys, which stand at place 0 of a table of one, and the numbers
abbrev pub all_pieces : List Piece
all_pieces = Lists 1 0 [] ∷ Numbers [] ∷ []

-- what a part knows that has these pieces, of these deals, and so the first seat, and one that was joined to another
abbrev pub part_view : List Piece → List Deal → View
part_view pieces deals = record { seen = []; heard = []; mine = []; pieces = pieces; deals = deals }

abbrev pub first_view : View
first_view = part_view all_pieces []

abbrev pub spent_view : View
spent_view = part_view [] []

-- what a witness knows that was told this much
abbrev pub told_view : List Event → View
told_view seen = record { seen = seen; heard = []; mine = []; pieces = []; deals = [] }

-- the first piece, and the others
abbrev pub first_of : List Piece → List Piece
first_of [] = []
first_of (piece ∷ pieces) = piece ∷ []

abbrev pub rest_of : List Piece → List Piece
rest_of [] = []
rest_of (piece ∷ pieces) = pieces

-- the pieces of a seat that has this view, or has none, and the deals that it knows of
abbrev pub pieces_seen : List View → List Piece
pieces_seen [] = []
pieces_seen (view ∷ _) = view.pieces

abbrev pub deals_seen : List View → List Deal
deals_seen [] = []
deals_seen (view ∷ _) = view.deals
