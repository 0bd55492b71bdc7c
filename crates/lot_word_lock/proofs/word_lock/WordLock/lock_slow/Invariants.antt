use Rattle.lot_word_lock.specs.WordLock.{IsCallerOf, IsTrying}
use Rattle.lot_word_lock.proofs.word_lock.WordLock.lock_slow.Given as goal

abbrev pub invariant-loop : goal.invariant-loop
invariant-loop g l = record {
  iterator : (goal.iterator-loop g).can_next l.iterator' × (goal.iterator-loop g).is_finite l.iterator';
  lock : IsCallerOf l.self l.caller;
  tries : IsTrying l.caller 0 0;
}
