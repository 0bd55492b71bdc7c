use Rattle.std.proofs.Common.{◌≡◌, ◌++◌, drop}
use Rattle.lot_litmus.specs.Queues.{entries_of}
use Rattle.lot_litmus.proofs.queue.Queue.append.Given as goal

abbrev pub invariant-loop-index : goal.invariant-loop-index
invariant-loop-index l =
    entries_of l.fn.self ++ drop l.fn.first (entries_of l.other) ≡ entries_of l.self ++ drop l.index (entries_of l.other)
