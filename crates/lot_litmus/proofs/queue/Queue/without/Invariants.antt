use Rattle.std.proofs.Common.{◌≡◌, ◌≤◌, ◌++◌, drop, length}
use Rattle.lot_litmus.specs.Queues.{entries_of, without_thread}
use Rattle.lot_litmus.proofs.queue.Queue.without.Given as goal

abbrev pub invariant-loop-index : goal.invariant-loop-index
invariant-loop-index l =
    (without_thread l.thread.number (entries_of l.self)
    ≡ entries_of l.left ++ without_thread l.thread.number (drop l.index (entries_of l.self)))
    × (length (entries_of l.left) ≤ l.index)
