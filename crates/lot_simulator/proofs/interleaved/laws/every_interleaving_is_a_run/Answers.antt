use Rattle.lot_simulator.proofs.InterleavingLemmas.{IsRun-sequential}
use Rattle.lot_simulator.proofs.interleaved.laws.every_interleaving_is_a_run.Goals as goal

pub returns : goal.returns
returns c = IsRun-sequential
