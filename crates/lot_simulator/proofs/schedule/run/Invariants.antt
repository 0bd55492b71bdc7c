use Rattle.std.proofs.Common.{◌≡◌, ◌≤◌, ◌+◌, ◌-◌, ◌++◌, List, length, take, vec_len, vec_capacity}
use Rattle.lot_machine.specs.declared.step.Answer.{Answer}
use Rattle.lot_simulator.proofs.ScheduleLemmas.{HasRun}
use Rattle.lot_simulator.proofs.schedule.run.Given as goal

-- the steps so far have run, and there is room for the answers of the others
abbrev pub invariant-loop-step : goal.invariant-loop-step
invariant-loop-step l = record {
  room : vec_len l.answers + (length l.fn.steps - l.step-index) ≤ vec_capacity l.answers;
  ran : (given : List Answer) × (l.answers.items ≡ l.fn.answers.items ++ given)
      × HasRun l.fn.lot (take l.step-index l.fn.steps) given l.lot;
}
