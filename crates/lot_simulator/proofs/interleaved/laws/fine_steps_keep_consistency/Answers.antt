use Rattle.lot_simulator.proofs.FineLotLemmas.{IsFineConsistent-new}
use Rattle.lot_simulator.proofs.InterleavedLemmas.{sequential_view-new}
use Rattle.lot_simulator.proofs.InterleavingLemmas.{IsFineConsistent-step}
use Rattle.lot_simulator.proofs.interleaved.laws.fine_steps_keep_consistency.Goals as goal

pub returns : goal.returns
returns c = record { view = sequential_view-new; new = IsFineConsistent-new; step = IsFineConsistent-step }
