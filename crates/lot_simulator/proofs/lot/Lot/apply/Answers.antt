use Rattle.lot_simulator.proofs.lot.Lot.apply.Goals as goal

pub returns-in-Release-clause-step : goal.returns-in-Release-clause-step
returns-in-Release-clause-step c = rw c.in-Release.is c.apply_release.ensures.step
