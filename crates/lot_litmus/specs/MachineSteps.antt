-- What a step of a test does to the lot in it.
use Rattle.std.specs.Prelude.{◌≡◌, ◌⊎◌, ℕ, List}
use Rattle.lot_machine.specs.declared.step.Answer.{Answer}
use Rattle.lot_machine.specs.declared.step.Step.{Step}
use Rattle.lot_machine.specs.Machine.{Machine}
use Rattle.lot_machine.specs.Steps.{IsStep}
use Rattle.lot_litmus.specs.declared.test.Test.{Test}
use Rattle.lot_litmus.specs.Configuration.{Configuration}
use Rattle.lot_litmus.specs.Schedule.{first_of, run}
use Rattle.lot_litmus.specs.Steps.{Outcome, Blocked, Goes, Fails, stepped}

-- nothing, or a step of the machine
abbrev pub IsSameOrStep : Machine → Machine → Type 0
IsSameOrStep m new = (new ≡ m) ⊎ ((step : Step) × (given : Answer) × IsStep m step given new)

abbrev pub IsMove : Machine → Outcome → Type 0
IsMove m Blocked = Unit {0}
IsMove m (Goes c) = IsSameOrStep m c.machine
IsMove m (Fails fault) = Unit {0}

-- so it is wherever a schedule leads, with the next step of every thread
abbrev pub StepsAreOfTheMachine : Type 0
StepsAreOfTheMachine =
    (test : Test) (schedule : List ℕ) (c : Configuration) (thread : ℕ) → run test (first_of test) schedule ≡ Goes c
    → IsMove c.machine (stepped test c thread)
