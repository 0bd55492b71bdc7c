use Rattle.lot_history.proofs.LawLemmas.{replayed}
use Rattle.lot_history.proofs.laws.histories_can_be_replayed.Goals as goal

pub returns : goal.returns
returns c = replayed
