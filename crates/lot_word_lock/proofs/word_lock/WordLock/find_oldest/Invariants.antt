use Rattle.std.proofs.Common.{◌≡◌, List, ℕ, ◌∷◌, length}
use Rattle.lot_word_lock.specs.WordPlaces.{IsPlace}
use Rattle.lot_word_lock.specs.WordView.{seen_by}
use Rattle.lot_word_lock.specs.WordLock.{IsCallerOf, Sees, seat_of}
use Rattle.lot_word_lock.proofs.word_lock.WordLock.find_oldest.Given as goal

abbrev pub invariant-loop-newest : goal.invariant-loop-newest
invariant-loop-newest g l = record {
  lock : IsCallerOf l.self l.caller;
  places : IsPlace l.newer × IsPlace l.oldest;
  holds : (older : List ℕ) × Sees l.caller (l.newer ∷ l.oldest ∷ older);
  home : (seat_of l.caller).1 ≡ (seat_of l.fn.caller).1;
}

abbrev pub decreases-loop-newest : goal.decreases-loop-newest
decreases-loop-newest g l = length (seen_by (seat_of l.caller).0)
