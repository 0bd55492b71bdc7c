use Rattle.std.proofs.Common.{◌≡◌, ◌∷◌}
use Rattle.lot_history.specs.Witness.{limit_of}
use Rattle.lot_threads.specs.Cells.{lists_in, threads_in}
use Rattle.lot_threads.proofs.told.add_requeued.Given as goal

-- what the caller says, and this answer
abbrev pub ghosts-add_with : goal.ghosts-add_with
ghosts-add_with g a = record { said = λ s t. g.E.Told.said s t × (t ≡ a._values.now.answer) }

abbrev pub ghost-add_with : goal.ghost-add_with
ghost-add_with g a =
    lists_in (limit_of a.history.now) a._values.now.source.now ∷ lists_in (limit_of a.history.now) a._values.now.target.now ∷ threads_in a._values.now.taken.now
