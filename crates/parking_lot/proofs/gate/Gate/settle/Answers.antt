use Rattle.std.proofs.Common.{ℕ, subst, sym}
use Rattle.lock_words.specs.Stock.{waits_of}
use Rattle.parking_lot.specs.Queues.{MayBe}
use Rattle.parking_lot.proofs.GateLemmas.{held, holds_as, settled}
use Rattle.parking_lot.proofs.gate.Gate.settle.Goals as goal

pub returns-then-forget_number : goal.returns-then-forget_number
returns-then-forget_number g c =
    settled c.args.self.now.stock c.forget_number.new.hand c.forget_number.ensures.stock c.loop.hand (waits_of c.loop.hand)
    c.loop.invariant.holds.permit (c.forget_number.ensures.forgot c.if-forget_number.true)

pub loop-preserved : goal.loop-preserved
loop-preserved g c = record {
  iterator = (tt, tt);
  own = c.forget_number.ensures.own.own;
  holds = (
      let before = c.loop.invariant.holds in
      let waits = waits_of c.loop.hand in
      holds_as c.args.self.now.stock c.forget_number.new.hand c.forget_number.ensures.stock
      c.forget_number.new.thread.number waits
      (subst (λ (n : ℕ). MayBe n waits) (sym c.forget_number.ensures.own.is_number) before.as_number)
      (held c.args.self.now.stock c.forget_number.new.hand c.forget_number.ensures.stock c.loop.hand waits before.permit
      (c.forget_number.ensures.unchanged c.if-forget_number.false))
      );
}
