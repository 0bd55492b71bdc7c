use Rattle.lot_threads.specs.Members.{IsDataOf}
use Rattle.parking_lot.specs.Gates.{HoldsAs}
use Rattle.parking_lot.proofs.gate.Gate.settle.Given as goal

abbrev pub invariant-loop : goal.invariant-loop
invariant-loop g l = record {
  iterator : (goal.iterator-loop g).can_next l.iterator' × (goal.iterator-loop g).is_finite l.iterator';
  own : IsDataOf l.self.lot.now l.thread;
  holds : HoldsAs l.self.stock l.thread.number l.hand;
}
