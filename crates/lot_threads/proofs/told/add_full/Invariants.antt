use Rattle.lot_machine.specs.declared.step.Answer.TheVariants as answer
use Rattle.lot_machine.specs.declared.step.Step.TheVariants as step
use Rattle.lot_threads.specs.Members.{Is}
use Rattle.lot_threads.proofs.told.add_full.Given as goal

-- no number was free, and nothing changes
abbrev pub ghosts-add : goal.ghosts-add
ghosts-add a = record { said = Is step.Register answer.Full }

abbrev pub ghost-add : goal.ghost-add
ghost-add a = a.me.now.seat.me.0.pieces
