use Rattle.lot_simulator.proofs.RoomLemmas.{misfits_do_not_fit}
use Rattle.lot_simulator.proofs.record.misfits_do_not_fit.Goals as goal

pub returns : goal.returns
returns c = misfits_do_not_fit
