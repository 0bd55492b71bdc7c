use Rattle.std.proofs.Common.{◌≡◌, []}
use Rattle.lot_word_lock.specs.declared.word_lock.view.View.TheVariants.{Enqueued}
use Rattle.lot_word_lock.specs.WordLock.{IsCallerOf, seat_of}
use Rattle.lot_word_lock.proofs.word_lock.WordLock.wait_until_told.Given as goal

abbrev pub invariant-loop : goal.invariant-loop
invariant-loop g l = record {
  iterator : (goal.iterator-loop g).can_next l.iterator' × (goal.iterator-loop g).is_finite l.iterator';
  lock : IsCallerOf l.self l.caller;
  waits : seat_of l.caller ≡ (Enqueued l.place, []);
}
