use Rattle.std.proofs.Common.{arith}
use Rattle.lot_machine.proofs.NumberLemmas.{IsTableSize-trimmed}
use Rattle.lot_machine.proofs.size.trimmed_size.Goals as goal

pub returns-clause-table : goal.returns-clause-table
returns-clause-table c =
    let power = c.next_power_of_two-least.ensures in
    rw c.min.ensures
    (IsTableSize-trimmed c.args.size c.next_power_of_two-least.result c.requires.size power.power (omega arith))
