use Rattle.lot_machine.proofs.AnswerLemmas.{after_requeue-aborted}
use Rattle.lot_machine.proofs.laws.abort_changes_nothing.Goals as goal

pub returns : goal.returns
returns c = after_requeue-aborted
