use Rattle.std.proofs.Common.{rules}
use Rattle.lot_history.proofs.StepLemmas.{arrives_allowed}
use Rattle.lot_history.proofs.history.History.witness.Goals as goal

pub load_new_seat-requires : goal.load_new_seat-requires
load_new_seat-requires c =
    (search rules, arrives_allowed c.args.self.now.table.shared.key.max_threads c.args.self.now.table.shared.table_id.slots)
