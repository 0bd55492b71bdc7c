use Rattle.std.proofs.Common.{◌∙◌, ◌==◌, ap}
use Rattle.lot_litmus.proofs.ViewLemmas.{is_last-is}
use Rattle.lot_litmus.proofs.state.State.is_last.Goals as goal

pub returns : goal.returns
returns c =
    ap (λ n. n == 0) c.len.ensures
    ∙ is_last-is c.args.self.now.queues c.args.self.now.standings c.args.key.number c.args.thread.number
    c.queue.result c.without.result c.queue.ensures c.without.ensures
