use Rattle.std.proofs.Common.{[], ◌∷◌, true}
use Rattle.lot_history.specs.Witness.{limit_of}
use Rattle.lot_machine.specs.declared.step.Answer.TheVariants as answer
use Rattle.lot_history.specs.declared.view.Piece.TheVariants.{Timing}
use Rattle.lot_threads.specs.Cells.{lists_in}
use Rattle.lot_threads.specs.Members.{Is, entry_step}
use Rattle.lot_threads.proofs.told.add_entered.Given as goal

-- the thread was let in, and its piece is the bucket's
abbrev pub ghosts-add_with : goal.ghosts-add_with
ghosts-add_with a = record { said = Is (entry_step a._values.now.1 true) answer.Entered }

abbrev pub ghost-add_with : goal.ghost-add_with
ghost-add_with a = lists_in (limit_of a.history.now) a._values.now.0.now
    ∷ Timing a._values.now.1.number a._values.now.1.timed ∷ []
