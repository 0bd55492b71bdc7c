use Rattle.std.proofs.Common.{◌≤◌, length}
use Rattle.lot_litmus.specs.Queues.{entries_of}
use Rattle.lot_litmus.proofs.queue.Queue.renumbered.Given as goal

abbrev pub invariant-loop-index : goal.invariant-loop-index
invariant-loop-index l = length (entries_of l.renumbered) ≤ l.index
