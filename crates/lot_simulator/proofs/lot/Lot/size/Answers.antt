use Rattle.std.proofs.Common.{◌∙◌, ap, arith}
use Rattle.lot_machine.specs.Numbers.{count_registered}
use Rattle.lot_simulator.proofs.LotThreadLemmas.{lot_of}
use Rattle.lot_simulator.proofs.UseLemmas.{threads_of-uses}
use Rattle.lot_simulator.proofs.lot.Lot.size.Goals as goal

pub returns-clause-room : goal.returns-clause-room
returns-clause-room c =
    let same = ap count_registered c.self.invariant.1 ∙ threads_of-uses (lot_of c.self.inside) in
    rw (← c.self.view_is) (omega (arith, same, c.size.ensures.room))
