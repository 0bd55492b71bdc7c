use Rattle.parking_lot.proofs.GateLemmas.{took}
use Rattle.parking_lot.proofs.gate.Gate.take_until.Goals as goal

pub returns-then-try_take : goal.returns-then-try_take
returns-then-try_take g c =
    took c.args.self.now.stock c.try_take.new.hand c.try_take.ensures.stock c.arrive-hand.result c.arrive-hand.ensures.rests
    (c.try_take.ensures.holds c.if-try_take.true)

pub returns-then-try_take-2 : goal.returns-then-try_take-2
returns-then-try_take-2 g c =
    took c.args.self.now.stock c.try_take-in-loop.new.hand c.try_take-in-loop.ensures.stock c.loop.hand
    c.loop.invariant.rests.rests (c.try_take-in-loop.ensures.holds c.if-try_take-2.true)
