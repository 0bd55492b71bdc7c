use Rattle.std.proofs.Common.{[], ◌∷◌, true}
use Rattle.lot_machine.specs.declared.step.Answer.TheVariants as answer
use Rattle.lot_history.specs.declared.view.Piece.TheVariants.{Timing}
use Rattle.lot_threads.specs.Members.{Is, entry_step}
use Rattle.lot_threads.proofs.titled_steps.add_entered_titled.Given as goal

-- the thread was let in, and its piece is the bucket's; what is left says how it waits
abbrev pub ghosts-add_titled : goal.ghosts-add_titled
ghosts-add_titled a = record { said = Is (entry_step a._values.now true) answer.Entered }

abbrev pub ghost-add_titled : goal.ghost-add_titled
ghost-add_titled a = Timing a._values.now.number a._values.now.timed ∷ []
