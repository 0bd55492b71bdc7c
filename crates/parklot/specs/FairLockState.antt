-- A fair mutex or a condition variable for threads as contracts see it. What the mutex's atomic holds is not told, so
-- no contract says that one holder excludes another.
use Rattle.std.specs.Prelude.{ℕ}

-- the key on which its waiters stand
pub record LockState : Type 0 where
  pub key : ℕ
