use Rattle.std.proofs.Common.{[], ◌∷◌}
use Rattle.lot_history.specs.Witness.{limit_of}
use Rattle.lot_threads.specs.Cells.{lists_in}
use Rattle.lot_threads.proofs.told.find_two.Given as goal

-- nothing can be said of a step that finds this
abbrev pub ghosts-add_with : goal.ghosts-add_with
ghosts-add_with a = record { said = λ s t. ⊥ }

abbrev pub ghost-add_with : goal.ghost-add_with
ghost-add_with a = lists_in (limit_of a.history.now) a._values.now.0.now ∷ lists_in (limit_of a.history.now) a._values.now.1.now ∷ []
