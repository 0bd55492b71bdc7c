-- An interleaved lot as contracts see it.
use Rattle.std.specs.Prelude.{ℕ, List, Option}
use Rattle.lot_base.specs.BucketState.{BucketState}
use Rattle.lot_base.specs.declared.token.UnparkToken.{UnparkToken}
use Rattle.lot_simulator.specs.InterleavedState.{Caller}
use Rattle.lot_simulator.specs.LotState.{ThreadState}

-- a thread: what any lot keeps of it, where its key is its key word, which an Enter that is not valid leaves as it was;
-- the key that it has read since it is late; and the token of the node in its slot
pub record FineThreadState : Type 0 where
  pub thread : ThreadState
  pub key_read : Option ℕ
  pub slot : Option UnparkToken

-- the row of buckets, and the threads and the callers by their numbers. That a thread has its node exactly while it
-- runs, and a full slot just one node of its own number, the private type `FineThread` keeps, with `Thread` and `Slot`
-- in it
pub record FineLotState : Type 0 where
  pub buckets : List BucketState
  pub threads : List FineThreadState
  pub callers : List Caller
