use Rattle.lock_words.proofs.OnceLemmas.{opens}
use Rattle.lock_words.proofs.beginning.Beginning.new.Goals as goal

pub of_words-requires : goal.of_words-requires
of_words-requires c = opens
