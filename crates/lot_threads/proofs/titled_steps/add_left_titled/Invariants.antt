use Rattle.std.proofs.Common.{[], ◌∷◌}
use Rattle.lot_machine.specs.declared.status.Status.TheVariants as status
use Rattle.lot_machine.specs.declared.step.Answer.TheVariants as answer
use Rattle.lot_machine.specs.declared.step.Step.TheVariants as step
use Rattle.lot_history.specs.declared.view.Piece.TheVariants.{Thread}
use Rattle.lot_threads.specs.Members.{Is}
use Rattle.lot_threads.proofs.titled_steps.add_left_titled.Given as goal

-- the thread has left the list, and runs
abbrev pub ghosts-add_titled : goal.ghosts-add_titled
ghosts-add_titled a =
    record { said = Is (step.Resolve a._values.now.0) (answer.TimedOut a._values.now.1 a._values.now.2) }

abbrev pub ghost-add_titled : goal.ghost-add_titled
ghost-add_titled a = Thread a._values.now.0 status.Running ∷ []
