use Rattle.lot_word_lock.specs.WordKey.{without_keys}
use Rattle.lot_word_lock.proofs.WordLockHolds.{keeps_invariant}
use Rattle.lot_word_lock.proofs.word_lock.word_locks_keep_their_invariant.Goals as goal

pub returns : goal.returns
returns g c = λ key state ruled. keeps_invariant (g.T.Fits.fits key) (without_keys state) ruled.rest
