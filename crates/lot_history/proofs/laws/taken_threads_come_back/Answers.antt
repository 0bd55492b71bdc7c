use Rattle.lot_history.proofs.TakenLemmas.{taken_come_back}
use Rattle.lot_history.proofs.laws.taken_threads_come_back.Goals as goal

pub returns : goal.returns
returns c = taken_come_back
