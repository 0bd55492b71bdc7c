use Rattle.std.proofs.Common.{arith}
use Rattle.lot_machine.proofs.NumberLemmas.{count_registered-all}
use Rattle.lot_machine.proofs.numbers.least_free_of.Goals as goal

pub returns-clause-none : goal.returns-clause-none
returns-clause-none c = count_registered-all c.args.uses.now.items (λ k low. c.loop-number.invariant k (omega arith))
