use Rattle.std.proofs.Common.{◌∷◌}
use Rattle.lot_machine.specs.declared.status.Status.TheVariants as status
use Rattle.lot_machine.specs.declared.step.Answer.TheVariants as answer
use Rattle.lot_machine.specs.declared.step.Step.TheVariants as step
use Rattle.lot_history.specs.declared.view.Piece.TheVariants.{Records, Thread}
use Rattle.lot_history.specs.Views.{rest_of}
use Rattle.lot_history.proofs.ThreadLemmas.{Is}
use Rattle.lot_history.proofs.history.History.acquire.Given as goal

-- the step records the key once more
abbrev pub ghosts-acquire_as : goal.ghosts-acquire_as
ghosts-acquire_as g a = record { said = Is (step.Acquire a.number a.key) answer.Recorded }

-- and the thread has these records then
abbrev pub ghost-acquire_as : goal.ghost-acquire_as
ghost-acquire_as g a =
    (g.after, Thread a.number status.Running ∷ Records a.number g.after ∷ rest_of (rest_of a.me.now.seat.me.0.pieces))
