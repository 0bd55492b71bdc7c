use Rattle.parking_lot.specs.Phasers.{IsInQueue}
use Rattle.parking_lot.proofs.phaser.titled.TitledPhaser.leave.Given as goal

abbrev pub invariant-loop : goal.invariant-loop
invariant-loop g l = record {
  iterator : (goal.iterator-loop g).can_next l.iterator' × (goal.iterator-loop g).is_finite l.iterator';
  in_queue : IsInQueue l.self.lot.now l.self.key l.self.phases l.late l.phase l.hand;
}
