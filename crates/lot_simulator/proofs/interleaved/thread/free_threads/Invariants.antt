use Rattle.std.proofs.Common.{◌≡◌, map}
use Rattle.std.specs.List.{range_with_len}
use Rattle.lot_simulator.specs.FineLot.{free_fine_thread}
use Rattle.lot_simulator.proofs.interleaved.thread.free_threads.Given as goal

abbrev pub invariant-loop-number : goal.invariant-loop-number
invariant-loop-number l = l.threads.items ≡ map free_fine_thread (range_with_len 0 l.number)
