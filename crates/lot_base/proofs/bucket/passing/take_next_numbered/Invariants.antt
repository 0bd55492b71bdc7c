use Rattle.std.proofs.Common.{◌≡◌, ◌++◌, length, find}
use Rattle.lot_base.specs.Waiting.{without_first}
use Rattle.lot_base.specs.NodeLists.{lists_of, has_number}
use Rattle.lot_base.proofs.bucket.passing.take_next_numbered.Given as goal

abbrev pub invariant-loop-node : goal.invariant-loop-node
invariant-loop-node l = record {
  nodes : l.passed ++ l.queue ≡ l.fn.passed ++ l.fn.queue;
  left : lists_of l.passed l.key ++ without_first (has_number l.number) (lists_of l.queue l.key)
      ≡ lists_of l.fn.passed l.key ++ without_first (has_number l.number) (lists_of l.fn.queue l.key);
  found : find (has_number l.number) (lists_of l.queue l.key) ≡ find (has_number l.number) (lists_of l.fn.queue l.key);
}

abbrev pub decreases-loop-node : goal.decreases-loop-node
decreases-loop-node l = length l.queue
