use Rattle.std.proofs.Common.{arith}
use Rattle.lot_litmus.proofs.QueueLemmas.{longer_by_one}
use Rattle.lot_litmus.proofs.queue.Queue.renumbered.Goals as goal

pub loop-index-preserved : goal.loop-index-preserved
loop-index-preserved c = longer_by_one _ _ _ _ c.push.ensures (omega arith) c.loop-index.invariant
