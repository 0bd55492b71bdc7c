use Rattle.lot_simulator.proofs.SleepLemmas.{unnotified_threads_sleep}
use Rattle.lot_simulator.proofs.fair.laws.unnotified_threads_sleep.Goals as goal

pub returns : goal.returns
returns c = unnotified_threads_sleep
