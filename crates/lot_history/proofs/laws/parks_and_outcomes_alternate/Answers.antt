use Rattle.lot_history.proofs.LawLemmas.{alternate}
use Rattle.lot_history.proofs.laws.parks_and_outcomes_alternate.Goals as goal

pub returns : goal.returns
returns c = alternate
