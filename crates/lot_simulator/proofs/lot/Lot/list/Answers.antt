use Rattle.lot_simulator.specs.Represents.{nodes_in}
use Rattle.lot_simulator.proofs.LotLemmas.{numbers-waiters}
use Rattle.lot_simulator.proofs.lot.Lot.list.Goals as goal

pub returns-clause-numbers : goal.returns-clause-numbers
returns-clause-numbers c =
    rw (← c.self.view_is, numbers-waiters (nodes_in c.self.inside.table.cells c.args.key)) c.list.ensures.told
