use Rattle.std.proofs.Common.{◌∷◌}
use Rattle.lot_machine.specs.declared.status.Status.TheVariants as status
use Rattle.lot_machine.specs.declared.step.Answer.TheVariants as answer
use Rattle.lot_machine.specs.declared.step.Step.TheVariants as step
use Rattle.lot_history.specs.declared.view.Piece.TheVariants.{Thread}
use Rattle.lot_history.specs.Views.{rest_of}
use Rattle.lot_history.proofs.ThreadLemmas.{Is}
use Rattle.lot_history.proofs.history.History.give_back.Given as goal

-- the step is a return, which answers the token
abbrev pub ghosts-give_back_as : goal.ghosts-give_back_as
ghosts-give_back_as a = record { said = Is (step.Return a.number) (answer.Unparked a.token) }

-- and the thread runs then
abbrev pub ghost-give_back_as : goal.ghost-give_back_as
ghost-give_back_as a = Thread a.number status.Running ∷ rest_of a.me.now.seat.me.0.pieces
