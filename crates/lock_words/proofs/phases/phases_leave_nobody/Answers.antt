use Rattle.lot_word_lock.specs.WordKey.{without_keys}
use Rattle.lock_words.proofs.PhaseHolds.{leaves_nobody}
use Rattle.lock_words.proofs.phases.phases_leave_nobody.Goals as goal

pub returns : goal.returns
returns g c = λ key state ruled. leaves_nobody g.M.Tells.told (g.M.Tells.fits key) (without_keys state) ruled.rest
