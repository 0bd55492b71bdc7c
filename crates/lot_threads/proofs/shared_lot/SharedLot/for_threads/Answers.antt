use Rattle.std.proofs.Common.{List, refl, sym, subst, arith}
use Rattle.lot_base.specs.Place.{IsTableSize}
use Rattle.lot_history.specs.Moves.{Regroups}
use Rattle.lot_history.specs.Witness.{max_threads_of}
use Rattle.lot_history.specs.declared.view.Piece.{Piece}
use Rattle.lot_threads.specs.Rows.{empty_lists, other_pieces}
use Rattle.lot_threads.proofs.RowLemmas.{cuts_up}
use Rattle.lot_threads.proofs.shared_lot.SharedLot.for_threads.Goals as goal

pub cut_up-requires-clause-regroups : goal.cut_up-requires-clause-regroups
cut_up-requires-clause-regroups g c =
    let bound = max_threads_of c.in_ok-history.history in
    let max_threads = c.args.max_threads in
    let limit = c.args.limit in
    let table : IsTableSize 16 = record {
      bits = 4;
      at_least_4 = omega arith;
      at_most_16 = omega arith;
      is_power = refl;
    } in
    subst (λ (pieces : List Piece).
    Regroups bound pieces (empty_lists limit 16 0 16 (other_pieces max_threads limit)))
    (sym c.in_ok-history.ensures.pieces) (cuts_up max_threads limit 16 table bound)
