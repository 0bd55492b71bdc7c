use Rattle.std.specs.Prelude.{◌≡◌, ◌+◌, All, vec_len}
use Rattle.lot_simulator.specs.TicketState.{new_ticket}
use Rattle.lot_simulator.proofs.recording_lot.RecordingLot.new.Given as goal

-- each ticket has a part of each ledger, and nobody has an amount
abbrev pub invariant-loop : goal.invariant-loop
invariant-loop g l = record {
  parts : (l.count.parts + l.counter ≡ l.workers) × (l.woken.parts + l.counter ≡ l.workers)
      × (l.unparked.parts + l.counter ≡ l.workers);
  amounts : (l.count.amount ≡ 0) × (l.woken.amount ≡ 0) × (l.unparked.amount ≡ 0);
  tickets : (vec_len l.tickets ≡ l.counter) × All (λ ticket. ticket ≡ new_ticket) l.tickets.items;
}
