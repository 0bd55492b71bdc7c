use Rattle.std.specs.Prelude.{drop}
use Rattle.lot_simulator.specs.Lot.{machine}
use Rattle.lot_machine.specs.Machine.{IsConsistent}
use Rattle.lot_machine.specs.Run.{IsRun}
use Rattle.lot_machine.specs.Steps.{IsStep}
use Rattle.lot_simulator.specs.Journal.{journal_steps, journal_answers}
use Rattle.examples.proofs.recording.replay.Given as goal

-- the entries that are left run from what the lot means now
abbrev pub invariant-loop-step : goal.invariant-loop-step
invariant-loop-step l = record {
  consistent : IsConsistent (machine l.lot);
  left : IsRun IsStep (machine l.lot) (journal_steps (drop l.step-index l.recorded.journal))
      (journal_answers (drop l.step-index l.recorded.journal)) (machine l.recorded.lot);
}
