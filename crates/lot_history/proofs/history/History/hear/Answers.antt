use Rattle.lot_history.proofs.RuleLemmas.{looks-joined}
use Rattle.lot_history.proofs.history.History.hear.Goals as goal

pub returns-clause-looks : goal.returns-clause-looks
returns-clause-looks c =
    let told = c.tell-told.result.seat.me.0 in
    looks-joined c.args.self.now.table.shared.key.max_threads c.args.me.now.seat.id c.join.new.me.seat.id c.args.me.now.seat.me.0
    c.join.new.me.seat.me.0 c.look_as.new.me.seat.me.0 told.seen told.pieces told.deals
    c.join.ensures.still.number c.join.ensures.view c.tell-told.ensures.no_pieces c.look_as.ensures.looks
