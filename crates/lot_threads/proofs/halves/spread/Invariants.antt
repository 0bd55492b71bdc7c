use Rattle.std.proofs.Common.{length}
use Rattle.lot_base.specs.BucketState.{KeepsPlace}
use Rattle.lot_threads.proofs.HalfLemmas.{IsSpreading}
use Rattle.lot_threads.proofs.halves.spread.Given as goal

abbrev pub invariant-loop-node : goal.invariant-loop-node
invariant-loop-node l = record {
  bucket : KeepsPlace l.fn.bucket l.bucket;
  low : KeepsPlace l.fn.low l.low;
  high : KeepsPlace l.fn.high l.high;
  spreading : IsSpreading l.fn.bucket.size l.fn.bucket.place l.fn.bucket.nodes l.bucket.nodes l.low.nodes l.high.nodes;
}

abbrev pub decreases-loop-node : goal.decreases-loop-node
decreases-loop-node l = length l.bucket.nodes
