-- A table as contracts see it.
use Rattle.std.specs.Prelude.{List}
use Rattle.lot_base.specs.BucketState.{BucketState}
use Rattle.lot_machine.specs.declared.numbers.Use.{Use}

-- its buckets, each at its place, and the use of each thread number
pub record TableState : Type 0 where
  pub cells : List BucketState
  pub numbers : List Use
