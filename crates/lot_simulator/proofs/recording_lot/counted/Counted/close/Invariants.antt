use Rattle.std.specs.Prelude.{◌≡◌, ◌+◌, vec_len}
use Rattle.std.specs.List.{sum_by}
use Rattle.lot_simulator.proofs.recording_lot.counted.Counted.close.Given as goal

-- the shares so far have the parts and the totals of the tickets that are gone
abbrev pub invariant-loop-ticket : goal.invariant-loop-ticket
invariant-loop-ticket g l = record {
  parts : (l.count.parts + vec_len l.tickets ≡ vec_len l.fn.tickets)
      × (l.woken.parts + vec_len l.tickets ≡ vec_len l.fn.tickets)
      × (l.unparked.parts + vec_len l.tickets ≡ vec_len l.fn.tickets);
  count : l.count.amount + sum_by (λ ticket. ticket.count) l.tickets.items
      ≡ sum_by (λ ticket. ticket.count) l.fn.tickets.items;
  woken : l.woken.amount + sum_by (λ ticket. ticket.woken) l.tickets.items
      ≡ sum_by (λ ticket. ticket.woken) l.fn.tickets.items;
  unparked : l.unparked.amount + sum_by (λ ticket. ticket.unparked) l.tickets.items
      ≡ sum_by (λ ticket. ticket.unparked) l.fn.tickets.items;
}

abbrev pub decreases-loop-ticket : goal.decreases-loop-ticket
decreases-loop-ticket g l = vec_len l.tickets
