use Rattle.std.proofs.Common.{arith}
use Rattle.lot_history.proofs.StepLemmas.{opens}
use Rattle.lot_history.proofs.history.History.bounded.Goals as goal

pub of_words-requires : goal.of_words-requires
of_words-requires c = opens c.args.max_threads (omega (arith, c.ranges.max_threads.fits))
