use Rattle.std.proofs.Common.{◌≡◌, drop}
use Rattle.lot_litmus.specs.Queues.{entries_of, has_thread}
use Rattle.lot_litmus.proofs.queue.Queue.has.Given as goal

abbrev pub invariant-loop-index : goal.invariant-loop-index
invariant-loop-index l =
    has_thread l.thread.number (drop l.index (entries_of l.self)) ≡ has_thread l.thread.number (entries_of l.self)
