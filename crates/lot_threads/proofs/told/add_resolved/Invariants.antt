use Rattle.std.proofs.Common.{[], ◌∷◌, true}
use Rattle.lot_history.specs.Witness.{limit_of}
use Rattle.lot_machine.specs.declared.status.Status.TheVariants as status
use Rattle.lot_machine.specs.declared.step.Answer.TheVariants as answer
use Rattle.lot_machine.specs.declared.step.Step.TheVariants as step
use Rattle.lot_history.specs.declared.view.Piece.TheVariants.{Thread, Timing}
use Rattle.lot_threads.specs.Cells.{lists_in}
use Rattle.lot_threads.specs.Members.{Is}
use Rattle.lot_threads.proofs.told.add_resolved.Given as goal

-- the thread has left the list, and runs
abbrev pub ghosts-add_with : goal.ghosts-add_with
ghosts-add_with a =
    record { said = Is (step.Resolve a._values.now.1) (answer.TimedOut a._values.now.2 a._values.now.3) }

abbrev pub ghost-add_with : goal.ghost-add_with
ghost-add_with a = lists_in (limit_of a.history.now) a._values.now.0.now ∷ Thread a._values.now.1 status.Running
    ∷ Timing a._values.now.1 true ∷ []
