use Rattle.std.proofs.Common.{◌≡◌, sym, subst, arith, All}
use Rattle.std.proofs.lemmas.List.Elements.{All-push}
use Rattle.lot_simulator.specs.TicketState.{new_ticket}
use Rattle.lot_simulator.proofs.recording_lot.RecordingLot.new.Goals as goal

pub loop-preserved : goal.loop-preserved
loop-preserved g c = record {
  parts = (
    omega (arith, c.loop.invariant.parts.0, c.split_off.ensures.parts_left),
    omega (arith, c.loop.invariant.parts.1, c.split_off-in-loop.ensures.parts_left),
    omega (arith, c.loop.invariant.parts.2, c.split_off-in-loop-2.ensures.parts_left),
  );
  amounts = (
    omega (arith, c.loop.invariant.amounts.0, c.split_off.ensures.amount_left),
    omega (arith, c.loop.invariant.amounts.1, c.split_off-in-loop.ensures.amount_left),
    omega (arith, c.loop.invariant.amounts.2, c.split_off-in-loop-2.ensures.amount_left),
  );
  tickets = (
    omega (arith, c.loop.invariant.tickets.0, c.in_ok-push.ensures.len),
    subst (All (λ ticket. ticket ≡ new_ticket)) (sym c.in_ok-push.ensures.items)
        (All-push (λ ticket. ticket ≡ new_ticket) c.loop.tickets.items c.new-in-loop.result c.loop.invariant.tickets.1
        c.new-in-loop.ensures),
  );
}
