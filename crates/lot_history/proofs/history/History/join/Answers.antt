use Rattle.std.proofs.Common.{rules}
use Rattle.lot_history.proofs.StepLemmas.{takes_allowed}
use Rattle.lot_history.proofs.history.History.join.Goals as goal

pub join_seat-requires : goal.join_seat-requires
join_seat-requires c =
    let seat = c.args.me.now.seat in
    let other = c.args.other.seat in (
      c.requires.witness.table,
      c.requires.other.table,
      c.requires.other.slots,
      search rules,
      takes_allowed c.args.self.now.table.shared.key.max_threads seat.id seat.me.0 other.id other.me.0 c.requires.quiet,
    )
