use Rattle.std.proofs.Common.{◌≡◌, length}
use Rattle.lot_simulator.specs.Table.{AreEmpty}
use Rattle.lot_simulator.proofs.table.growth.empty_buckets.Given as goal

abbrev pub invariant-loop-place : goal.invariant-loop-place
invariant-loop-place l = record { count : length l.row.items ≡ l.place; empty : AreEmpty l.size l.row.items }
