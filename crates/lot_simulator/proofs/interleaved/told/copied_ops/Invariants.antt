use Rattle.std.proofs.Common.{take}
use Rattle.lot_simulator.specs.Private.FineCopies.{AreCopiesIn}
use Rattle.lot_simulator.proofs.interleaved.told.copied_ops.Given as goal

-- the steps so far are copied
abbrev pub invariant-loop-step : goal.invariant-loop-step
invariant-loop-step l = AreCopiesIn (take l.step-index l.steps) l.copies.items
