-- What a search promises of what it found.
use Rattle.std.specs.Prelude.{◌≡◌}
use Rattle.lot_litmus.specs.declared.explore.Found.{Found}
use Rattle.lot_litmus.specs.declared.explore.Found.TheVariants as found
use Rattle.lot_litmus.specs.declared.test.Test.{Test}
use Rattle.lot_litmus.specs.Outcomes.{numbers_of}
use Rattle.lot_litmus.specs.Schedule.{IsSafe, IsStuck, first_of, run}
use Rattle.lot_litmus.specs.Steps.{Fails}

abbrev pub Holds : Test → Found → Type 0
Holds test (found.Safe states) = IsSafe test
Holds test (found.Fails schedule fault) = run test (first_of test) (numbers_of schedule.items) ≡ Fails fault
Holds test (found.Stuck schedule) = IsStuck test (run test (first_of test) (numbers_of schedule.items))
Holds test _ = Unit {0}
