use Rattle.lot_word_lock.specs.WordKey.{without_keys}
use Rattle.lock_words.proofs.PhaseHolds.{has_one_leader}
use Rattle.lock_words.proofs.phases.phases_have_one_leader.Goals as goal

pub returns : goal.returns
returns g c = λ key state ruled. has_one_leader g.M.Tells.told (g.M.Tells.fits key) (without_keys state) ruled.rest
