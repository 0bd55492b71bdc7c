use Rattle.std.proofs.Common.{◌≡◌, replicate, None}
use Rattle.lot_simulator.proofs.interleaved.caller.idle_callers.Given as goal

abbrev pub invariant-loop : goal.invariant-loop
invariant-loop l = l.made.items ≡ replicate l.counter (record { section = None; wakes = 0 })
