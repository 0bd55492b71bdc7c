use Rattle.lock_words.proofs.OnceLemmas.{begins_once}
use Rattle.lock_words.proofs.beginning.onces_begin_once.Goals as goal

pub returns : goal.returns
returns c = λ state ruled. begins_once state ruled
