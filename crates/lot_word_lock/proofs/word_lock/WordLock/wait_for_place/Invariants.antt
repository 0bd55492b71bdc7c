use Rattle.lot_word_lock.specs.WordLock.{IsCallerOf, IsTrying}
use Rattle.lot_word_lock.specs.WordPlaces.{IsPlace}
use Rattle.lot_word_lock.proofs.word_lock.WordLock.wait_for_place.Given as goal

abbrev pub invariant-loop : goal.invariant-loop
invariant-loop g l = record {
  iterator : (goal.iterator-loop g).can_next l.iterator' × (goal.iterator-loop g).is_finite l.iterator';
  lock : IsCallerOf l.self l.caller;
  tries : IsTrying l.caller 0 0;
  place : IsPlace l.place;
}
