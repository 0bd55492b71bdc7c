use Rattle.lot_litmus.proofs.ViewLemmas.{configuration-same}
use Rattle.lot_litmus.proofs.state.State.is_same.Goals as goal

pub returns : goal.returns
returns c =
    λ queues. configuration-same c.args.self.now c.args.other.now
    (c.are_same_bytes.ensures c.if-not-are_same_bytes.false)
    (c.are_same_threads.ensures c.if-not-are_same_threads.false)
    (c.are_same_standings.ensures c.if-not-are_same_standings.false) (c.are_same_queues.ensures queues)
