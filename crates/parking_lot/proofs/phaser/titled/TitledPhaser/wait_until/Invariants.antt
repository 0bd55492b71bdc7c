use Rattle.lock_words.specs.Phases.{IsHandOf, IsResting}
use Rattle.parking_lot.proofs.phaser.titled.TitledPhaser.wait_until.Given as goal

abbrev pub invariant-loop : goal.invariant-loop
invariant-loop g l = record {
  iterator : (goal.iterator-loop g).can_next l.iterator' × (goal.iterator-loop g).is_finite l.iterator';
  own : IsHandOf l.self.phases l.hand;
  rests : IsResting l.hand;
}
