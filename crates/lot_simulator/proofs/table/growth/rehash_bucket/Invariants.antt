use Rattle.std.proofs.Common.{length}
use Rattle.lot_simulator.proofs.GrowthLemmas.{IsSpreading}
use Rattle.lot_simulator.proofs.table.growth.rehash_bucket.Given as goal

abbrev pub invariant-loop-node : goal.invariant-loop-node
invariant-loop-node l = IsSpreading l.fn.row.items l.fn.bucket l.row.items l.bucket

abbrev pub decreases-loop-node : goal.decreases-loop-node
decreases-loop-node l = length l.bucket.nodes
