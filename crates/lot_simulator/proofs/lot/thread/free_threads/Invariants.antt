use Rattle.std.proofs.Common.{◌≡◌, map}
use Rattle.std.specs.List.{range_with_len}
use Rattle.lot_simulator.specs.Lot.{free_thread}
use Rattle.lot_simulator.proofs.lot.thread.free_threads.Given as goal

abbrev pub invariant-loop-number : goal.invariant-loop-number
invariant-loop-number l = l.threads.items ≡ map free_thread (range_with_len 0 l.number)
