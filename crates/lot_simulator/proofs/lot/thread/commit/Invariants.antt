use Rattle.std.proofs.Common.{◌≡◌, length}
use Rattle.lot_simulator.specs.Private.Commit.{threads_after_commit, CanCommit}
use Rattle.lot_simulator.proofs.lot.thread.commit.Given as goal

-- what is still to be committed, on what was, gives the same as at the start
abbrev pub invariant-loop-node : goal.invariant-loop-node
invariant-loop-node l = record {
  threads : threads_after_commit l.rest l.threads.items ≡ threads_after_commit l.fn.taken l.fn.threads.items;
  can : CanCommit l.rest l.threads.items;
}

abbrev pub decreases-loop-node : goal.decreases-loop-node
decreases-loop-node l = length l.rest
