use Rattle.lot_machine.specs.declared.step.Answer.TheVariants as answer
use Rattle.lot_machine.specs.declared.step.Step.TheVariants as step
use Rattle.lot_history.proofs.ThreadLemmas.{Is}
use Rattle.lot_history.proofs.history.History.trim.Given as goal

-- the step is a trim
abbrev pub ghosts-add : goal.ghosts-add
ghosts-add a = record { said = Is step.Trim answer.Trimmed }

-- and leaves all pieces
abbrev pub ghost-add : goal.ghost-add
ghost-add a = a.me.now.seat.me.0.pieces
