use Rattle.lot_simulator.proofs.InterleavedOutcomeLemmas.{totals-interleaved}
use Rattle.lot_simulator.proofs.interleaved.laws.interleaved_threads_come_back.Goals as goal

pub returns : goal.returns
returns c = totals-interleaved
