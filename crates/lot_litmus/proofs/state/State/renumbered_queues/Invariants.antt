use Rattle.std.proofs.Common.{◌≡◌, length}
use Rattle.lot_litmus.proofs.state.State.renumbered_queues.Given as goal

abbrev pub invariant-loop-key : goal.invariant-loop-key
invariant-loop-key l = length l.queues ≡ 4
