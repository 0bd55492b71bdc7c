use Rattle.lock_words.specs.Stock.{waits_of}
use Rattle.parking_lot.proofs.GateLemmas.{holds_as}
use Rattle.parking_lot.proofs.gate.Gate.wait_until.Goals as goal

-- the thread took a permit, and may wait as its number still
pub settle-requires-clause-holds : goal.settle-requires-clause-holds
settle-requires-clause-holds g c =
    holds_as c.args.self.now.stock c.try_take.new.hand c.try_take.ensures.stock c.loop.thread.number
    (waits_of c.loop.hand) c.loop.invariant.may_wait.as_number (c.try_take.ensures.holds c.if-try_take.true)
