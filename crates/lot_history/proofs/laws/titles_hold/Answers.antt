use Rattle.lot_history.proofs.HoldLemmas.{titles_hold_lem}
use Rattle.lot_history.proofs.laws.titles_hold.Goals as goal

pub returns : goal.returns
returns c = λ bounds state kept. titles_hold_lem bounds.max_threads state.views kept
