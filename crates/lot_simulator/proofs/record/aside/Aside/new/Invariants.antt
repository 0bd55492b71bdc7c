use Rattle.std.proofs.Common.{◌≡◌, replicate}
use Rattle.lot_simulator.proofs.record.aside.Aside.new.Given as goal

abbrev pub invariant-loop : goal.invariant-loop
invariant-loop l = l.of_each.items ≡ replicate l.counter 0
