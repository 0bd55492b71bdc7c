use Rattle.std.proofs.Common.{◌∙◌, ap}
use Rattle.lot_simulator.specs.FineLot.{plain_lot}
use Rattle.lot_machine.specs.Numbers.{count_registered}
use Rattle.lot_simulator.proofs.FineLotLemmas.{fine_lot_of}
use Rattle.lot_simulator.proofs.UseLemmas.{threads_of-uses}
use Rattle.lot_simulator.proofs.interleaved.FineLot.registered.Goals as goal

pub returns : goal.returns
returns c =
    rw (← c.self.view_is) (c.registered.ensures ∙ ap count_registered c.self.invariant.1
    ∙ threads_of-uses (plain_lot (fine_lot_of c.self.inside)))
