use Rattle.parking_lot.specs.Gates.{Rests}
use Rattle.parking_lot.proofs.gate.Gate.take_until.Given as goal

abbrev pub invariant-loop : goal.invariant-loop
invariant-loop g l = record {
  iterator : (goal.iterator-loop g).can_next l.iterator' × (goal.iterator-loop g).is_finite l.iterator';
  rests : Rests l.self.stock l.hand;
}
