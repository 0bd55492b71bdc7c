use Rattle.std.proofs.Common.{◌∷◌, [], false}
use Rattle.lot_machine.specs.declared.status.Status.TheVariants as status
use Rattle.lot_machine.specs.declared.step.Answer.TheVariants as answer
use Rattle.lot_machine.specs.declared.step.Step.TheVariants as step
use Rattle.lot_history.specs.declared.view.Piece.TheVariants.{Numbers, Records, Thread, Timing}
use Rattle.lot_history.specs.Views.{rest_of}
use Rattle.lot_history.proofs.ThreadLemmas.{Is}
use Rattle.lot_history.proofs.history.History.register.Given as goal

-- the step is a registration, which answers the number
abbrev pub ghosts-register_as : goal.ghosts-register_as
ghosts-register_as g a = record { said = Is step.Register (answer.Registered a.number) }

-- and the number has its own pieces then
abbrev pub ghost-register_as : goal.ghost-register_as
ghost-register_as g a =
    let rest = rest_of a.me.now.seat.me.0.pieces in
    (g.after, Numbers g.after ∷ Thread a.number status.Running ∷ Records a.number [] ∷ Timing a.number false ∷ rest)
