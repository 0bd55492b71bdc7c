use Rattle.std.proofs.Common.{arith}
use Rattle.lot_machine.proofs.NumberLemmas.{IsTableSize-grown}
use Rattle.lot_machine.proofs.size.size_for.Goals as goal

pub returns-clause-table : goal.returns-clause-table
returns-clause-table c =
    let power = c.next_power_of_two.ensures in
    IsTableSize-grown c.args.size _ c.next_power_of_two.result c.requires.size (omega arith) (omega arith) power.power
    power.lower_bound power.upper_bound
