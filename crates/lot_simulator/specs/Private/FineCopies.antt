-- Copies of the operations of interleaved steps.
use Rattle.std.specs.Prelude.{List, Option, Some, None, ⊤}
use Rattle.std.specs.List.{AllZip}
use Rattle.lot_machine.specs.declared.step.Op.{Op}
use Rattle.lot_simulator.specs.declared.interleaved.FineStep.{FineStep}
use Rattle.lot_simulator.specs.declared.interleaved.FineStep.TheVariants.{Begin}
use Rattle.lot_simulator.specs.Copies.{IsCopyOfOp}

-- the operation of a step that begins a section, copied
abbrev pub IsCopyIn : FineStep → Option Op → Type 0
IsCopyIn (Begin caller op) None = ⊥
IsCopyIn (Begin caller op) (Some copy) = IsCopyOfOp op copy
IsCopyIn _ _ = ⊤

-- and for each step of a list
abbrev pub AreCopiesIn : List FineStep → List (Option Op) → Type 0
AreCopiesIn steps copies = AllZip IsCopyIn steps copies
