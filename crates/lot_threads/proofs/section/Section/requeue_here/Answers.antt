use Rattle.std.proofs.Common.{rules}
use Rattle.lot_threads.specs.Cells.{IsCellFor}
use Rattle.lot_threads.proofs.CommitLemmas.{requeues}
use Rattle.lot_threads.proofs.section.Section.requeue_here.Goals as goal

-- the commit adds nothing
pub returns-clause-requeued : goal.returns-clause-requeued
returns-clause-requeued g c =
    let history = c.args.self.now.lot.now in
    let from = c.args.self.now.key in
    let cell = c.unwrap-cell.result.now in
    let own : IsCellFor history from cell = search rules in
    let told = c.requeue_in_one-taken.ensures in
    let committed = c.commit_one.ensures in
    requeues history cell.bucket from own.here c.args.me.now c.requeue_in_one-taken.new.me c.commit_one.new.me
    committed.seen committed.nothing_added c.requeue_in_one-taken.result.0 g.V.FnOnce g.C.FnOnce c.args.validate
    c.args.callback c.args.to told.adds told.found.found told.found.so
