use Rattle.std.proofs.Common.{rules}
use Rattle.examples.specs.DoneJobs.{IsDone}
use Rattle.examples.proofs.GatheredLemmas.{GivesAll, all_promised, one_more}
use Rattle.examples.proofs.thread_pool.serve_all.Goals as goal

-- nothing is gathered yet, and each worker did as it promised
pub loop-done-init : goal.loop-done-init
loop-done-init g c =
    let as_done = GivesAll (IsDone g.F.Fn c.args.work.now c.args.jobs.now) in
    let given = c.in_ok-served.ensures.each in
    let promised = all_promised _ _ _ _ as_done (λ place r called. search rules) (search rules) given in
    (search rules, rw c.into_iter-done-iterator.ensures.into_iter_gives.0 promised)

-- what one worker did is gathered
pub loop-done-preserved : goal.loop-done-preserved
loop-done-preserved g c =
    let is_done = IsDone g.F.Fn c.args.work.now c.args.jobs.now in
    let inv = c.loop-done.invariant in
    one_more is_done _ _ _ _ _ _ inv.0 inv.1 c.in-Some.ensures.steps.0 c.in_ok-done.was (search rules)
