use Rattle.lot_base.proofs.LawLemmas.{lists_after_requeue-to_itself, map-with_new_key, result_of-requeue_all}
use Rattle.lot_base.proofs.laws.requeue_to_itself_changes_nothing.Goals as goal

pub returns : goal.returns
returns g c =
    record { lists = lists_after_requeue-to_itself _; nodes = map-with_new_key; answer = result_of-requeue_all _ }
