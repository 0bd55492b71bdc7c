use Rattle.std.proofs.Common.{true}
use Rattle.lot_machine.specs.declared.step.Answer.TheVariants as answer
use Rattle.lot_machine.specs.declared.step.Step.TheVariants as step
use Rattle.lot_history.specs.Titles.{entering, with_entry}
use Rattle.lot_history.proofs.ThreadLemmas.{Is}
use Rattle.lot_history.proofs.history.History.enter_titled.Given as goal

-- the thread enters
abbrev pub ghosts-enter_titled_as : goal.ghosts-enter_titled_as
ghosts-enter_titled_as a =
    record { said = Is (step.Enter a.number a.key true a.park_token a.timed) answer.Entered }

-- and stands in the list then
abbrev pub ghost-enter_titled_as : goal.ghost-enter_titled_as
ghost-enter_titled_as a =
    with_entry (entering a.number a.key a.park_token a.timed) a.me.now.seat.me.0.pieces
