-- What a pool's workers give.
use Rattle.std.specs.Prelude.{◌≡◌, List, Some, slice_get}
use Rattle.std.specs.Fn.{FnReturnsAt}
use Rattle.examples.specs.declared.thread_pool.Done.{Done}
use denote.Param.Members.{Shared}
use denote.Ref.{Bor}

-- the list has a job at the place, and work gave the output for it
pub record IsDone {J O F : Type 0} (fn : Shared F (Bor J × Unit {0}) O) (work : F) (jobs : List J) (done : Done O) : Type 0 where
  pub job : J
  pub job_is : slice_get jobs done.place ≡ Some job
  pub gave : FnReturnsAt fn work job done.output
