use Rattle.std.proofs.Common.{rules}
use Rattle.lot_history.proofs.StepLemmas.{regroups_allowed}
use Rattle.lot_history.proofs.history.History.regroup_as.Goals as goal

pub load-requires : goal.load-requires
load-requires g c =
    let shared = c.args.self.now.table.shared in
    let seat = c.args.me.now.seat in (
      c.requires.witness.table,
      search rules,
      regroups_allowed shared.key.max_threads shared.table_id.slots seat.id seat.me g.C.Seated.after c.requires.regroups,
    )
