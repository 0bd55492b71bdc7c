use Rattle.std.proofs.Common.{false}
use Rattle.lot_machine.specs.declared.step.Answer.TheVariants as answer
use Rattle.lot_threads.specs.Members.{Is, entry_step}
use Rattle.lot_threads.proofs.told.add_invalid.Given as goal

-- the thread was not let in, and nothing changes
abbrev pub ghosts-add_with : goal.ghosts-add_with
ghosts-add_with a = record { said = Is (entry_step a._values.now false) answer.Invalid }

abbrev pub ghost-add_with : goal.ghost-add_with
ghost-add_with a = a.me.now.seat.me.0.pieces
