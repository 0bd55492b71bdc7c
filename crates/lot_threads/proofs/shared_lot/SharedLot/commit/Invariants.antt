use Rattle.std.proofs.Common.{◌≡◌, ◌≤◌, ◌+◌, All, length, min}
use Rattle.lot_history.specs.Witness.{IsStill, events_of, max_threads_of, pieces_of, seen_by}
use Rattle.lot_threads.specs.Cells.{IsBelow, threads_in}
use Rattle.lot_threads.specs.Handles.{kept_handles}
use Rattle.lot_threads.proofs.shared_lot.SharedLot.commit.Given as goal

-- the witness has the pieces of those that are left to commit
abbrev pub invariant-loop-node : goal.invariant-loop-node
invariant-loop-node g l = record {
  still : IsStill l.self l.fn.me l.me;
  seen : seen_by l.me ≡ seen_by l.fn.me;
  nothing_added : events_of l.me ≡ events_of l.fn.me;
  pieces : pieces_of l.me ≡ threads_in l.taken;
  below : All (IsBelow (max_threads_of l.self)) l.taken;
  handles : min 8 (length l.fn.taken) ≤ kept_handles l.handles + length l.taken;
}

abbrev pub decreases-loop-node : goal.decreases-loop-node
decreases-loop-node g l = length l.taken
