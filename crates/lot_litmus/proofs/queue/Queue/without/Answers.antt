use Rattle.std.proofs.Common.{rules, ◌∷◌, [], arith}
use Rattle.lot_litmus.specs.Queues.{entries_of}
use Rattle.lot_litmus.proofs.QueueLemmas.{without_thread-past, moved_over, longer_by_one}
use Rattle.lot_litmus.proofs.queue.Queue.without.Goals as goal

pub loop-index-preserved : goal.loop-index-preserved
loop-index-preserved c = (
  moved_over _ _ _ (c.entry-entry.result ∷ []) _ _ c.loop-index.invariant.0
      (without_thread-past c.args.thread.number (entries_of c.args.self.now) c.loop-index.index c.entry-entry.result
      c.entry-entry.ensures (search (rules, c.if-entry-thread.false))) c.push.ensures,
  longer_by_one _ _ (c.entry-entry.result ∷ []) _ c.push.ensures (omega arith) c.loop-index.invariant.1,
)
