use Rattle.lot_machine.proofs.LawLemmas.{OutcomesAlternate-run}
use Rattle.lot_machine.proofs.laws.parks_and_outcomes_alternate.Goals as goal

pub returns : goal.returns
returns c = OutcomesAlternate-run
