use Rattle.std.proofs.Common.{[], ◌∷◌, false}
use Rattle.lot_machine.specs.declared.status.Status.TheVariants as status
use Rattle.lot_machine.specs.declared.step.Answer.TheVariants as answer
use Rattle.lot_machine.specs.declared.step.Step.TheVariants as step
use Rattle.lot_history.specs.declared.view.Piece.TheVariants.{Records, Thread, Timing}
use Rattle.lot_threads.specs.Cells.{numbers_in}
use Rattle.lot_threads.specs.Members.{Is}
use Rattle.lot_threads.proofs.told.add_registered.Given as goal

-- the number is registered, and its thread runs then
abbrev pub ghosts-add_with : goal.ghosts-add_with
ghosts-add_with a = record { said = Is step.Register (answer.Registered a._values.now.0) }

abbrev pub ghost-add_with : goal.ghost-add_with
ghost-add_with a = numbers_in a._values.now.1.now
    ∷ Thread a._values.now.0 status.Running ∷ Records a._values.now.0 [] ∷ Timing a._values.now.0 false ∷ []
