use Rattle.std.proofs.Common.{length}
use Rattle.lot_base.proofs.queue.Queue.drop.Given as goal

abbrev pub decreases-loop-node : goal.decreases-loop-node
decreases-loop-node l = length l.self
