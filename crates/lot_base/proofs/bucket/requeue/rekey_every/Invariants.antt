use Rattle.std.proofs.Common.{◌≡◌, ◌+◌, ◌-◌, ◌^◌, ◌<◌, ◌++◌, min, map, length}
use Rattle.lot_base.specs.NodeLists.{lists_of, with_new_key, saturated}
use Rattle.lot_base.specs.Requeue.{moves_of, IsCallableAtEach, IsCalledAtEach}
use Rattle.lot_base.proofs.RequeueLemmas.{others_of}
use Rattle.lot_base.proofs.bucket.requeue.rekey_every.Given as goal

abbrev pub invariant-loop-node : goal.invariant-loop-node
invariant-loop-node g l = let waiters = lists_of l.fn.queue l.from in record {
  rekeyed : l.rekeyed ++ map (with_new_key l.to) (lists_of l.nodes l.from) ≡ map (with_new_key l.to) waiters;
  others : l.others ++ others_of l.from l.nodes ≡ others_of l.from l.fn.queue;
  count : min (l.count + length (lists_of l.nodes l.from)) (2 ^ 64 - 1) ≡ saturated (length waiters);
  fits : l.count < 2 ^ 64;
  callable : IsCallableAtEach g.M.FnMut l.moved (moves_of (lists_of l.nodes l.from));
  called : (last : _) → IsCalledAtEach g.M.FnMut l.moved (moves_of (lists_of l.nodes l.from)) last
      → IsCalledAtEach g.M.FnMut l.fn.moved (moves_of waiters) last;
}

abbrev pub decreases-loop-node : goal.decreases-loop-node
decreases-loop-node g l = length l.nodes
