use Rattle.std.proofs.Common.{◌∷◌}
use Rattle.lot_history.specs.Witness.{limit_of}
use Rattle.lot_threads.specs.Cells.{lists_in}
use Rattle.lot_threads.specs.Titled.{title_in}
use Rattle.lot_threads.proofs.titled_steps.add_titled.Given as goal

-- the bucket's lists, the title that tells of them, and the step's other pieces
abbrev pub ghost-add_with : goal.ghost-add_with
ghost-add_with g a = lists_in (limit_of a.history.now) a._values.now.0.now
    ∷ title_in a._values.now.1 a._values.now.0.now ∷ g.rest
