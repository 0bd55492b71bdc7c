use Rattle.std.proofs.Common.{◌≡◌, ◌≤◌, ◌+◌, ◌-◌, ◌++◌, List, length, take, vec_len, vec_capacity}
use Rattle.lot_machine.specs.Run.{IsRun}
use Rattle.lot_simulator.specs.declared.fair.schedule.FairAnswer.{FairAnswer}
use Rattle.lot_simulator.specs.FairSteps.{IsFairStep}
use Rattle.lot_simulator.specs.FairCore.{fair_state}
use Rattle.lot_simulator.proofs.fair.schedule.run_fair.Given as goal

-- the steps so far have run, and there is room for the answers of the others
abbrev pub invariant-loop-step : goal.invariant-loop-step
invariant-loop-step l = record {
  room : vec_len l.answers + (length l.fn.steps - l.step-index) ≤ vec_capacity l.answers;
  ran : (given : List FairAnswer) × (l.answers.items ≡ l.fn.answers.items ++ given)
      × IsRun IsFairStep (fair_state l.fn.core) (take l.step-index l.fn.steps) given (fair_state l.core);
}
