use Rattle.lot_history.proofs.LawLemmas.{come_back}
use Rattle.lot_history.proofs.laws.unparked_threads_come_back.Goals as goal

pub returns : goal.returns
returns c = come_back
