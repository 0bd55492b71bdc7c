use Rattle.lot_threads.specs.Rows.{empty_lists, other_pieces}
use Rattle.lot_threads.proofs.told.cut_up.Given as goal

abbrev pub ghost-regroup_with : goal.ghost-regroup_with
ghost-regroup_with a = empty_lists a._values.now.1 a._values.now.2 0 a._values.now.2
    (other_pieces a._values.now.0 a._values.now.1)
