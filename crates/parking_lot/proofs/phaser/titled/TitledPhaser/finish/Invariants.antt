use Rattle.parking_lot.specs.Phasers.{Leads}
use Rattle.parking_lot.proofs.phaser.titled.TitledPhaser.finish.Given as goal

abbrev pub invariant-loop : goal.invariant-loop
invariant-loop g l = record {
  iterator : (goal.iterator-loop g).can_next l.iterator' × (goal.iterator-loop g).is_finite l.iterator';
  leads : Leads l.self.phases l.hand;
}
