use Rattle.std.proofs.Common.{[], ◌∷◌}
use Rattle.lot_history.specs.Witness.{limit_of}
use Rattle.lot_threads.specs.Cells.{lists_in}
use Rattle.lot_threads.proofs.told.regroup_joined.Given as goal

abbrev pub ghost-regroup_with : goal.ghost-regroup_with
ghost-regroup_with a = lists_in (limit_of a.history.now) a._values.now.now ∷ []
