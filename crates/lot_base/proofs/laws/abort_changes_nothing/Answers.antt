use Rattle.lot_base.proofs.LawLemmas.{lists_after_requeue-aborted}
use Rattle.lot_base.proofs.laws.abort_changes_nothing.Goals as goal

pub returns : goal.returns
returns g c = lists_after_requeue-aborted _
