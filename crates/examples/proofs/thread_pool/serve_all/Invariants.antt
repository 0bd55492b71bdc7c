use Rattle.std.proofs.Common.{All, IfOk}
use Rattle.examples.specs.DoneJobs.{IsDone}
use Rattle.examples.proofs.thread_pool.serve_all.Given as goal

-- what was gathered is done as it should be, and so is what the other workers gave
abbrev pub invariant-loop-done : goal.invariant-loop-done
invariant-loop-done g l =
    All (IsDone g.F.Fn l.work l.jobs) l.all.items
    × All (λ r. IfOk r (λ done. All (IsDone g.F.Fn l.work l.jobs) done.items)) l.done-iterator.rest.items
