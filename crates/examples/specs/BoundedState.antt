-- A row of values with bounded room as contracts see it.
use Rattle.std.specs.Prelude.{ℕ, List}

-- the values, first to last, and for how many there is room
pub record BoundedState (T : Type 0) : Type 0 where
  pub values : List T
  pub capacity : ℕ
