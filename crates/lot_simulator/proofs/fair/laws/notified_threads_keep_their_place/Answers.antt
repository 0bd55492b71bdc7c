use Rattle.lot_simulator.proofs.FairLawLemmas.{notified_threads_keep_their_place}
use Rattle.lot_simulator.proofs.fair.laws.notified_threads_keep_their_place.Goals as goal

pub returns : goal.returns
returns c = notified_threads_keep_their_place
