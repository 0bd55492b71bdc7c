use Rattle.std.proofs.Common.{◌∷◌}
use Rattle.lot_machine.specs.declared.step.Answer.TheVariants as answer
use Rattle.lot_machine.specs.declared.step.Step.TheVariants as step
use Rattle.lot_history.specs.declared.view.Piece.TheVariants.{Numbers}
use Rattle.lot_history.specs.Views.{rest_of}
use Rattle.lot_history.proofs.ThreadLemmas.{Is}
use Rattle.lot_history.proofs.history.History.retire.Given as goal

-- the step ends a registration
abbrev pub ghosts-retire_as : goal.ghosts-retire_as
ghosts-retire_as g a = record { said = Is (step.Retire a.number) answer.Retired }

-- and the number has no pieces then
abbrev pub ghost-retire_as : goal.ghost-retire_as
ghost-retire_as g a = (g.after, Numbers g.after ∷ rest_of (rest_of (rest_of (rest_of a.me.now.seat.me.0.pieces))))
