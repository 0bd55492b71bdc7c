use Rattle.lot_threads.proofs.HandedLemmas.{handed_over}
use Rattle.lot_threads.proofs.history_laws.parks_get_tokens_of_unparks.Goals as goal

pub returns : goal.returns
returns c = handed_over
