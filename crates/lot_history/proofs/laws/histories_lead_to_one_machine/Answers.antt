use Rattle.lot_history.proofs.LawLemmas.{one_machine, beginnings}
use Rattle.lot_history.proofs.laws.histories_lead_to_one_machine.Goals as goal

pub returns-clause-one : goal.returns-clause-one
returns-clause-one c = one_machine

pub returns-clause-beginnings : goal.returns-clause-beginnings
returns-clause-beginnings c = beginnings
