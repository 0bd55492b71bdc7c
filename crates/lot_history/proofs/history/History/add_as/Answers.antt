use Rattle.std.proofs.Common.{rules}
use Rattle.lot_history.proofs.StepLemmas.{adds_allowed}
use Rattle.lot_history.proofs.history.History.add_as.Goals as goal

pub load-requires : goal.load-requires
load-requires g c =
    let shared = c.args.self.now.table.shared in
    let seat = c.args.me.now.seat in (
      c.requires.witness.table,
      search rules,
      rw (c.requires.max_threads, c.requires.number)
          (adds_allowed shared.key.max_threads shared.table_id.slots seat.id seat.me g.E.Told.said g.C.Seated.after c.requires.moves),
    )
