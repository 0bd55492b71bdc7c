use Rattle.parking_lot.specs.Gates.{Holds}
use Rattle.parking_lot.proofs.gate.Gate.release.Given as goal

abbrev pub invariant-loop : goal.invariant-loop
invariant-loop g l = record {
  iterator : (goal.iterator-loop g).can_next l.iterator' × (goal.iterator-loop g).is_finite l.iterator';
  holds : Holds l.self.stock l.hand;
}
