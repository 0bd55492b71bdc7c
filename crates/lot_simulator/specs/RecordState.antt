-- A record as contracts see it.
use Rattle.std.specs.Prelude.{ℕ, List}
use Rattle.lot_simulator.specs.LotState.{LotState}
use Rattle.lot_simulator.specs.Journal.{Entry}

-- the lot, the journal of what was done on it, and how many entries the journal has room for
pub record RecordState : Type 0 where
  pub lot : LotState
  pub journal : List Entry
  pub capacity : ℕ
