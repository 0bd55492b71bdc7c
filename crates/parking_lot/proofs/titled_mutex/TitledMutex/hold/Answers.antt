use Rattle.parking_lot.proofs.GateLemmas.{took}
use Rattle.parking_lot.proofs.titled_mutex.TitledMutex.hold.Goals as goal

pub returns-then-acquire : goal.returns-then-acquire
returns-then-acquire g c =
    took c.args.self.now.gate.stock c.acquire.new.hand c.acquire.ensures.stock c.arrive-hand.result
    c.arrive-hand.ensures.rests (c.acquire.ensures.holds c.if-acquire.true)
