use Rattle.std.proofs.Common.{rules, ◌∙◌, sym}
use Rattle.lot_litmus.specs.Queues.{entries_of}
use Rattle.lot_litmus.proofs.QueueLemmas.{has_thread-here}
use Rattle.lot_litmus.proofs.queue.Queue.has.Goals as goal

pub returns-then-entry-thread : goal.returns-then-entry-thread
returns-then-entry-thread c =
    sym (has_thread-here c.args.thread.number (entries_of c.args.self.now) c.loop-index.index c.entry.result
    c.entry.ensures (search (rules, c.if-entry-thread.true)))
    ∙ c.loop-index.invariant
