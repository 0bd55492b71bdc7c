use Rattle.std.proofs.Common.{◌≡◌, drop}
use Rattle.lot_litmus.specs.Outcomes.{numbers_of}
use Rattle.lot_litmus.specs.Schedule.{first_of, run}
use Rattle.lot_litmus.specs.View.{configuration_of}
use Rattle.lot_litmus.proofs.test.Test.replay.Given as goal

abbrev pub invariant-loop-thread : goal.invariant-loop-thread
invariant-loop-thread l =
    run l.self (configuration_of l.at) (numbers_of (drop l.thread-index l.schedule))
    ≡ run l.self (first_of l.self) (numbers_of l.schedule)
