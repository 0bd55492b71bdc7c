use Rattle.lot_simulator.proofs.InterleavedOutcomeLemmas.{outcomes-interleaved}
use Rattle.lot_simulator.proofs.interleaved.laws.interleaved_outcomes_alternate.Goals as goal

pub returns : goal.returns
returns c = outcomes-interleaved
