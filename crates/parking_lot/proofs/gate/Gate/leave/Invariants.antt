use Rattle.parking_lot.specs.Gates.{IsInList}
use Rattle.parking_lot.proofs.gate.Gate.leave.Given as goal

abbrev pub invariant-loop : goal.invariant-loop
invariant-loop g l = record {
  iterator : (goal.iterator-loop g).can_next l.iterator' × (goal.iterator-loop g).is_finite l.iterator';
  in_list : IsInList l.self.lot.now l.self.key l.self.stock l.late l.hand;
}
