use Rattle.lot_machine.specs.declared.step.Answer.TheVariants as answer
use Rattle.lot_machine.specs.declared.step.Step.TheVariants as step
use Rattle.lot_threads.specs.Late.{late_pieces}
use Rattle.lot_threads.specs.Members.{Is}
use Rattle.lot_threads.proofs.told.add_late.Given as goal

-- the thread is late, wherever it stands
abbrev pub ghosts-add_with : goal.ghosts-add_with
ghosts-add_with a = record { said = Is (step.Deadline a._values.now) answer.Late }

abbrev pub ghost-add_with : goal.ghost-add_with
ghost-add_with a = late_pieces a._values.now a.me.now.seat.me.0.pieces
