use Rattle.lot_base.proofs.SpreadLemmas.{lists_of-push, with_all_entered-step}
use Rattle.lot_base.proofs.laws.spreading_keeps_order.Goals as goal

pub returns : goal.returns
returns c = record { one = lists_of-push; all = with_all_entered-step }
