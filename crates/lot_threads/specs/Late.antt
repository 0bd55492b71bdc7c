-- Pieces where the deadline of a thread has passed that stands in a list.
use Rattle.std.specs.Prelude.{ℕ, ◌==◌, true, cond, List, map}
use Rattle.lot_history.specs.declared.view.Piece.{Piece}
use Rattle.lot_history.specs.declared.view.Piece.TheVariants.{Lists, Thread, Records, Numbers, TitledLists, Title, Undealt, Timing}
use Rattle.lot_history.specs.declared.view.Standing.{Standing}

abbrev pub late_of : ℕ → Standing → Standing
late_of number each = record each { late = cond (each.number == number) true each.late }

abbrev pub late_in : ℕ → Piece → Piece
late_in number (Lists size place standing) = Lists size place (map (late_of number) standing)
late_in number (Thread other status) = Thread other status
late_in number (Records other keys) = Records other keys
late_in number (Numbers uses) = Numbers uses
late_in number (TitledLists limit size place standing) =
    TitledLists limit size place (map (late_of number) standing)
late_in number (Title key numbers) = Title key numbers
late_in number (Undealt from below) = Undealt from below
late_in number (Timing other timed) = Timing other timed

abbrev pub late_pieces : ℕ → List Piece → List Piece
late_pieces number pieces = map (late_in number) pieces
