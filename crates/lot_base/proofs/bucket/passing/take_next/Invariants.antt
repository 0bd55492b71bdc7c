use Rattle.std.proofs.Common.{◌≡◌, ◌++◌, length}
use Rattle.lot_base.specs.NodeLists.{lists_of}
use Rattle.lot_base.proofs.bucket.passing.take_next.Given as goal

abbrev pub invariant-loop-node : goal.invariant-loop-node
invariant-loop-node l = record {
  nodes : l.passed ++ l.queue ≡ l.fn.passed ++ l.fn.queue;
  passed : lists_of l.passed l.key ≡ lists_of l.fn.passed l.key;
  waiters : lists_of l.queue l.key ≡ lists_of l.fn.queue l.key;
}

abbrev pub decreases-loop-node : goal.decreases-loop-node
decreases-loop-node l = length l.queue
