use Rattle.lot_simulator.proofs.FairLawLemmas.{waiters_keep_their_order}
use Rattle.lot_simulator.proofs.fair.laws.waiters_keep_their_order.Goals as goal

pub returns : goal.returns
returns c = waiters_keep_their_order
