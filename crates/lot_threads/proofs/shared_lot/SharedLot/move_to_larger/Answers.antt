use Rattle.std.proofs.Common.{◌+◌, refl}
use Rattle.lot_history.specs.Witness.{id_of, limit_of, max_threads_of}
use Rattle.lot_threads.proofs.LockLemmas.{larger_row}
use Rattle.lot_threads.proofs.shared_lot.SharedLot.move_to_larger.Goals as goal

pub double-requires-clause-larger : goal.double-requires-clause-larger
double-requires-clause-larger g c κs within =
    let history = c.args.self.now in
    larger_row (id_of history) (max_threads_of history) (limit_of history) c.args.index (c.args.index + 1) c.in-Some.row.now.items
    c.in-Some-row.larger.now.items c.in-Some.ensures refl c.in-Some-row.ensures
