use Rattle.std.proofs.Common.{rules}
use Rattle.lot_history.proofs.StepLemmas.{deals_allowed}
use Rattle.lot_history.proofs.history.History.deal_as.Goals as goal

pub load-requires : goal.load-requires
load-requires g c =
    let shared = c.args.self.now.table.shared in
    let seat = c.args.me.now.seat in (
      c.requires.witness.table,
      search rules,
      rw (c.requires.key, c.requires.limit)
          (deals_allowed shared.key.max_threads shared.table_id.slots seat.id seat.me c.args.key c.args.limit g.D.Dealing.home
          c.requires.undealt c.requires.below),
    )
