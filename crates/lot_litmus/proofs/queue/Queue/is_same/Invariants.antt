use Rattle.std.proofs.Common.{◌≡◌, take, map}
use Rattle.lot_litmus.specs.Queues.{entries_of}
use Rattle.lot_litmus.specs.View.{waiter_of}
use Rattle.lot_litmus.proofs.queue.Queue.is_same.Given as goal

abbrev pub invariant-loop-index : goal.invariant-loop-index
invariant-loop-index l = map waiter_of (take l.index (entries_of l.self)) ≡ map waiter_of (take l.index (entries_of l.other))
