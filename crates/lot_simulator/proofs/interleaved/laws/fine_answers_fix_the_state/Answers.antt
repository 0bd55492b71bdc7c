use Rattle.lot_simulator.proofs.InterleavedLemmas.{IsFineStep-fixes}
use Rattle.lot_simulator.proofs.interleaved.laws.fine_answers_fix_the_state.Goals as goal

pub returns : goal.returns
returns c = IsFineStep-fixes
