use Rattle.std.proofs.Common.{◌≡◌, ◌+◌, ◌-◌, ◌^◌, ◌<◌, ◌++◌, min, map, length}
use Rattle.lot_base.specs.NodeLists.{lists_of, saturated, with_token}
use Rattle.lot_base.proofs.RequeueLemmas.{others_of}
use Rattle.lot_base.proofs.bucket.passing.take_every.Given as goal

abbrev pub invariant-loop-node : goal.invariant-loop-node
invariant-loop-node l = let waiters = lists_of l.fn.queue l.key in record {
  taken : l.taken ++ map (with_token l.token) (lists_of l.nodes l.key) ≡ map (with_token l.token) waiters;
  others : l.others ++ others_of l.key l.nodes ≡ others_of l.key l.fn.queue;
  count : min (l.count + length (lists_of l.nodes l.key)) (2 ^ 64 - 1) ≡ saturated (length waiters);
  fits : l.count < 2 ^ 64;
}

abbrev pub decreases-loop-node : goal.decreases-loop-node
decreases-loop-node l = length l.nodes
