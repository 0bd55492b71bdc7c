use Rattle.std.proofs.Common.{All}
use Rattle.examples.specs.DoneJobs.{IsDone}
use Rattle.examples.proofs.thread_pool.do_while_open.Given as goal

-- what was done so far is done as it should be
abbrev pub invariant-loop : goal.invariant-loop
invariant-loop g l = All (IsDone g.F.Fn l.work l.jobs) l.done.items
