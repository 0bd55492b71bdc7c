use Rattle.std.proofs.Common.{◌≡◌, ◌≤◌}
use Rattle.lot_history.specs.Witness.{id_of, max_threads_of}
use Rattle.lot_threads.specs.Cells.{IsRegistry, size_in}
use Rattle.lot_threads.proofs.shared_lot.SharedLot.give_up_room.Given as goal

abbrev pub invariant-loop-registry : goal.invariant-loop-registry
invariant-loop-registry g l = record {
  registry : IsRegistry (id_of l.self) (max_threads_of l.self) l.registry;
  numbers : l.registry.numbers ≡ l.fn.registry.numbers;
  above : l.size ≤ size_in l.registry;
}

abbrev pub decreases-loop-registry : goal.decreases-loop-registry
decreases-loop-registry g l = l.registry.row
