-- A semaphore as contracts see it.
use Rattle.std.specs.Prelude.{ℕ}

-- the key on which its waiters stand, and how many permits are free
pub record SemaphoreState : Type 0 where
  pub key : ℕ
  pub permits : ℕ
