-- A slot as contracts see it.
use Rattle.std.specs.Prelude.{ℕ, List}
use Rattle.lot_base.specs.NodeFields.{NodeFields}

-- the number of the thread that it belongs to, and the nodes that it holds, first in first; in use it has one at most,
-- which no type of this crate keeps
pub record SlotState : Type 0 where
  pub owner : ℕ
  pub nodes : List NodeFields
