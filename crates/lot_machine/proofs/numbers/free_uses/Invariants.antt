use Rattle.std.proofs.Common.{◌≡◌, replicate}
use Rattle.lot_machine.specs.declared.numbers.Use.TheVariants.{Free}
use Rattle.lot_machine.proofs.numbers.free_uses.Given as goal

abbrev pub invariant-loop : goal.invariant-loop
invariant-loop l = l.uses.items ≡ replicate l.counter Free
