use Rattle.std.proofs.Common.{◌%◌, ◌==◌}
use Rattle.lot_litmus.specs.Queues.{entries_of}
use Rattle.lot_litmus.proofs.QueueLemmas.{parted-joined, placed-short, moved_over, longer_by_one}
use Rattle.lot_litmus.proofs.queue.Queue.part.Goals as goal

pub loop-index-preserved : goal.loop-index-preserved
loop-index-preserved c =
    let taken = c.loop-index.rest.taken in
    let moved = c.loop-index.rest.moved in
    let joined = parted-joined taken moved (entries_of c.args.self.now) c.loop-index.index c.entry.result c.entry.ensures in
    let short = placed-short (taken % 2 == 1) (moved % 2 == 1) c.entry.result in (
      moved_over _ _ _ _ _ _ c.loop-index.invariant.0 joined.taken c.put.ensures.taken,
      moved_over _ _ _ _ _ _ c.loop-index.invariant.1 joined.moved c.put.ensures.moved,
      moved_over _ _ _ _ _ _ c.loop-index.invariant.2 joined.left c.put.ensures.left,
      longer_by_one _ _ _ _ c.put.ensures.taken short.taken c.loop-index.invariant.3,
      longer_by_one _ _ _ _ c.put.ensures.moved short.moved c.loop-index.invariant.4,
      longer_by_one _ _ _ _ c.put.ensures.left short.left c.loop-index.invariant.5,
    )
