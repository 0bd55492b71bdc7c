use Rattle.std.proofs.Common.{◌≡◌, ℕ, ◌<◌, slice_get, Some}
use Rattle.lot_machine.specs.declared.numbers.Use.TheVariants.{Registered}
use Rattle.lot_machine.proofs.numbers.least_free_of.Given as goal

abbrev pub invariant-loop-number : goal.invariant-loop-number
invariant-loop-number l = (k : ℕ) → k < l.number → slice_get l.uses.items k ≡ Some Registered
