-- A node as contracts see it.
use Rattle.std.specs.Prelude.{ℕ, Bool}
use Rattle.lot_base.specs.declared.token.ParkToken.{ParkToken}
use Rattle.lot_base.specs.declared.token.UnparkToken.{UnparkToken}

-- the five public fields of a node, which stands for its thread in a queue: the thread's number, the key that it
-- waits on or last came to wait on, also where it was not let in, what a filter is shown of it, what it was handed when it was unparked last, and whether
-- it waits with a timeout
pub record NodeFields : Type 0 where
  pub number : ℕ
  pub key : ℕ
  pub park_token : ParkToken
  pub unpark_token : UnparkToken
  pub timed : Bool
