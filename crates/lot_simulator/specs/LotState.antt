-- A lot as contracts see it.
use Rattle.std.specs.Prelude.{◌≡◌, ℕ, List, length}
use Rattle.lot_base.specs.BucketState.{BucketState}
use Rattle.lot_machine.specs.declared.status.Status.{Status}

-- a thread: its number, the key that it waits on or last came to wait on, in an exclusive lot also where it was not let
-- in, its status, and the keys that it recorded
pub record ThreadState : Type 0 where
  pub number : ℕ
  pub key : ℕ
  pub status : Status
  pub records : List ℕ

-- the row of buckets, and the threads by their numbers
pub record LotState : Type 0 where
  pub buckets : List BucketState
  pub threads : List ThreadState

-- a step that leaves the number of buckets
abbrev pub KeepsSize : LotState → LotState → Type 0
KeepsSize old new = length new.buckets ≡ length old.buckets
