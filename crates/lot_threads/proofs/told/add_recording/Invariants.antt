use Rattle.std.proofs.Common.{[], ◌∷◌}
use Rattle.lot_machine.specs.declared.status.Status.TheVariants as status
use Rattle.lot_history.specs.declared.view.Piece.TheVariants.{Records, Thread}
use Rattle.lot_threads.specs.Members.{Is}
use Rattle.lot_threads.proofs.told.add_recording.Given as goal

-- this step, and these records
abbrev pub ghosts-add_with : goal.ghosts-add_with
ghosts-add_with a = record { said = Is a._values.now.0 a._values.now.1 }

abbrev pub ghost-add_with : goal.ghost-add_with
ghost-add_with a = Thread a._values.now.2 status.Running ∷ Records a._values.now.2 a._values.now.3.now ∷ []
