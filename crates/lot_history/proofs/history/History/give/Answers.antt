use Rattle.std.proofs.Common.{rules}
use Rattle.lot_history.proofs.StepLemmas.{gives_allowed}
use Rattle.lot_history.proofs.history.History.give.Goals as goal

pub split_seat-requires : goal.split_seat-requires
split_seat-requires c =
    let seat = c.args.me.now.seat in
    (c.requires.table, search rules, gives_allowed c.args.self.now.table.shared.key.max_threads seat.id seat.me.0)
