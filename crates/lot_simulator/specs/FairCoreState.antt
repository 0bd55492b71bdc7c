-- A core as contracts see it.
use Rattle.lot_simulator.specs.LotState.{LotState}
use Rattle.lot_simulator.specs.declared.fair.fair_core.Holder.{Holder}

-- its lot, and who holds the mutex
pub record FairCoreState : Type 0 where
  pub lot : LotState
  pub holder : Holder
