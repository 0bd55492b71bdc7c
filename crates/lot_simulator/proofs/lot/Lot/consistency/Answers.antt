use Rattle.lot_simulator.specs.Lot.{thread_keys}
use Rattle.lot_simulator.proofs.lot.Lot.consistency.Goals as goal

pub returns : goal.returns
returns c = rw (← c.self.view_is) (thread_keys c.self.inside.threads.items, c.self.invariant.0.consistent)
