-- What goes by a key as contracts see it: a thing for which threads wait, or the right of who holds one. What an atomic
-- holds is not told, so no contract says that one holder excludes another, that an event was set, or that a permit was
-- free.
use Rattle.std.specs.Prelude.{ℕ}

-- the key on which the waiters stand
pub record KeyedState : Type 0 where
  pub key : ℕ
