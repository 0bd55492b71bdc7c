use Rattle.std.proofs.Common.{◌≡◌, length}
use Rattle.lot_simulator.specs.Represents.{waiters_in, Represents}
use Rattle.lot_simulator.specs.Table.{IsRowOf}
use Rattle.lot_simulator.proofs.GrowthLemmas.{IsGathered}
use Rattle.lot_simulator.proofs.table.growth.rehash.Given as goal

abbrev pub invariant-loop-place : goal.invariant-loop-place
invariant-loop-place l = record {
  count : length l.cells.items ≡ length l.fn.cells.items;
  row : IsRowOf (length l.fn.row.items) l.row.items;
  represents : Represents l.row.items (waiters_in l.row.items);
  gathered : IsGathered l.fn.cells.items l.cells.items l.fn.row.items l.row.items l.place;
}
