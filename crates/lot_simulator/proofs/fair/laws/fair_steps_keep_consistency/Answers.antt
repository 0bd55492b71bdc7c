use Rattle.lot_simulator.proofs.FairMachineLemmas.{IsFairConsistent-new, IsFairConsistent-step}
use Rattle.lot_simulator.proofs.fair.laws.fair_steps_keep_consistency.Goals as goal

pub returns : goal.returns
returns c = record { new = IsFairConsistent-new; consistent = IsFairConsistent-step }
