use Rattle.std.proofs.Common.{◌≡◌, List, ◌∷◌, refl, sym, subst}
use Rattle.lot_history.specs.Moves.{Moves}
use Rattle.lot_history.specs.Witness.{limit_of, max_threads_of, pieces_in, pieces_of}
use Rattle.lot_history.specs.declared.view.Piece.{Piece}
use Rattle.lot_threads.specs.Cells.{lists_in, threads_in}
use Rattle.lot_threads.proofs.told.add_taking.Goals as goal

pub add_taken-requires-clause-moves : goal.add_taken-requires-clause-moves
add_taken-requires-clause-moves g c =
    let before : pieces_of c.take.new.me ≡ pieces_in c.args.cell.now.part =
    rw (c.take.ensures.pieces, c.requires.idle.no_pieces, c.replace-part.ensures.value) refl in
    subst (λ (pieces : List Piece). Moves (max_threads_of c.args.history.now)
    (λ s t. g.E.Told.said s t × (t ≡ c.args.answer)) pieces
    (lists_in (limit_of c.args.history.now) c.args.cell.now.bucket ∷ threads_in c.args.taken.now)) (sym before) c.requires.moves
