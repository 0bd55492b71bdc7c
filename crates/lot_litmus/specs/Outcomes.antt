-- What a step of a thread comes to, and a schedule, as a search tells it.
use Rattle.std.specs.Prelude.{ℕ, List, map, Result, Ok, Err}
use Rattle.lot_litmus.specs.declared.code.Thread.{Thread}
use Rattle.lot_litmus.specs.declared.state.State.{State}
use Rattle.lot_litmus.specs.declared.step.Next.{Next}
use Rattle.lot_litmus.specs.declared.step.Next.TheVariants as next
use Rattle.lot_litmus.specs.declared.test.Fault.{Fault}
use Rattle.lot_litmus.specs.Steps.{Outcome, Blocked, Goes, Fails}
use Rattle.lot_litmus.specs.View.{configuration_of}

abbrev pub outcome_of : Next → Outcome
outcome_of next.Blocked = Blocked
outcome_of (next.Goes state) = Goes (configuration_of state)
outcome_of (next.Fails fault) = Fails fault

-- the numbers of the threads of a schedule, and where it leads
abbrev pub numbers_of : List Thread → List ℕ
numbers_of schedule = map (λ thread. thread.number) schedule

abbrev pub end_of : Result State Fault → Outcome
end_of (Ok state) = Goes (configuration_of state)
end_of (Err fault) = Fails fault
