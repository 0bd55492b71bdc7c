use Rattle.std.proofs.Common.{◌≡◌, ◌≤◌, ◌+◌, ◌-◌, ◌++◌, List, drop, length, take, vec_len, vec_capacity}
use Rattle.lot_simulator.specs.declared.interleaved.FineAnswer.{FineAnswer}
use Rattle.lot_machine.specs.declared.step.Step.{Step}
use Rattle.lot_simulator.specs.FineLot.{fine_state}
use Rattle.lot_simulator.specs.Private.FineCopies.{AreCopiesIn}
use Rattle.lot_simulator.proofs.CopyLemmas.{Tells}
use Rattle.lot_simulator.proofs.interleaved.run_fine.Given as goal

-- the steps so far have run and were told, the operations of the others have copies, and there is room for both
abbrev pub invariant-loop-step : goal.invariant-loop-step
invariant-loop-step l = record {
  room : vec_len l.answers + (length l.fn.steps - l.step-index) ≤ vec_capacity l.answers;
  also_room : vec_len l.sequential + (length l.fn.steps - l.step-index) ≤ vec_capacity l.sequential;
  copies : AreCopiesIn (drop l.step-index l.fn.steps) l.copies.items;
  ran : (given : List FineAnswer) × (told : List Step) × (l.answers.items ≡ l.fn.answers.items ++ given)
      × (l.sequential.items ≡ l.fn.sequential.items ++ told)
      × Tells (fine_state l.fn.lot) (take l.step-index l.fn.steps) given (fine_state l.lot) told;
}
