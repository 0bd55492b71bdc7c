use Rattle.lot_threads.specs.Members.{IsDataOf}
use Rattle.parking_lot.specs.Phasers.{MayWait}
use Rattle.parking_lot.proofs.phaser.titled.TitledPhaser.settle.Given as goal

abbrev pub invariant-loop : goal.invariant-loop
invariant-loop g l = record {
  iterator : (goal.iterator-loop g).can_next l.iterator' × (goal.iterator-loop g).is_finite l.iterator';
  own : IsDataOf l.self.lot.now l.thread;
  may_wait : MayWait l.self.phases l.thread.number l.phase l.hand;
}
