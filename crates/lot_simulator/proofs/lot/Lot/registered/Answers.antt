use Rattle.std.proofs.Common.{◌∙◌, ap}
use Rattle.lot_machine.specs.Numbers.{count_registered}
use Rattle.lot_simulator.proofs.LotThreadLemmas.{lot_of}
use Rattle.lot_simulator.proofs.UseLemmas.{threads_of-uses}
use Rattle.lot_simulator.proofs.lot.Lot.registered.Goals as goal

pub returns : goal.returns
returns c =
    rw (← c.self.view_is) (c.registered.ensures ∙ ap count_registered c.self.invariant.1
    ∙ threads_of-uses (lot_of c.self.inside))
