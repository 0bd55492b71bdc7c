use Rattle.std.proofs.Common.{◌≡◌}
use Rattle.lock_words.specs.Stock.{IsHandOf, seat_of}
use Rattle.parking_lot.proofs.gate.Gate.try_take.Given as goal

abbrev pub invariant-loop : goal.invariant-loop
invariant-loop g l = record {
  iterator : (goal.iterator-loop g).can_next l.iterator' × (goal.iterator-loop g).is_finite l.iterator';
  stock : IsHandOf l.self.stock l.hand;
  same : seat_of l.hand ≡ seat_of l.fn.hand;
}
