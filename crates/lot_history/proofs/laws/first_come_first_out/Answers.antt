use Rattle.lot_history.proofs.OrderLemmas.{first_out}
use Rattle.lot_history.proofs.laws.first_come_first_out.Goals as goal

pub returns : goal.returns
returns c = first_out
