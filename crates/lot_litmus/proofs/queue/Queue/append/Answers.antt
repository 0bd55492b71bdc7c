use Rattle.std.proofs.Common.{drop, length, ap, length-append, arith}
use Rattle.std.proofs.lemmas.List.{length-drop}
use Rattle.std.proofs.lemmas.Option.{slice_get_within}
use Rattle.lot_litmus.specs.Queues.{entries_of}
use Rattle.lot_litmus.proofs.QueueLemmas.{drop_here, moved_over}
use Rattle.lot_litmus.proofs.queue.Queue.append.Goals as goal

pub push-requires : goal.push-requires
push-requires c =
    let all = ap length c.loop-index.invariant in
    let first = length-append (entries_of c.args.self.now) (drop c.args.first (entries_of c.args.other.now)) in
    let now = length-append (entries_of c.loop-index.self) (drop c.loop-index.index (entries_of c.args.other.now)) in
    let skipped = length-drop c.args.first (entries_of c.args.other.now) in
    let left = length-drop c.loop-index.index (entries_of c.args.other.now) in
    let within = slice_get_within (entries_of c.args.other.now) c.loop-index.index c.entry.result c.entry.ensures in
    omega (arith, all, first, now, skipped, left, within, c.requires)

pub loop-index-preserved : goal.loop-index-preserved
loop-index-preserved c =
    moved_over _ _ _ _ _ _ c.loop-index.invariant
    (drop_here (entries_of c.args.other.now) c.loop-index.index c.entry.result c.entry.ensures) c.push.ensures
