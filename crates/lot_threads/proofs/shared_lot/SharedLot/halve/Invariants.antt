use Rattle.lot_history.specs.Witness.{id_of}
use Rattle.lot_threads.specs.Cells.{IsFresh}
use Rattle.lot_threads.proofs.shared_lot.SharedLot.halve.Given as goal

abbrev pub invariant-loop-place : goal.invariant-loop-place
invariant-loop-place g l = IsFresh (id_of l.self) l.me
