use Rattle.parking_lot.proofs.GateLemmas.{took}
use Rattle.parking_lot.proofs.gate.Gate.take_if_free.Goals as goal

pub returns-then-try_take : goal.returns-then-try_take
returns-then-try_take g c =
    took c.args.self.now.stock c.try_take.new.hand c.try_take.ensures.stock c.arrive-hand.result c.arrive-hand.ensures.rests
    (c.try_take.ensures.holds c.if-try_take.true)
