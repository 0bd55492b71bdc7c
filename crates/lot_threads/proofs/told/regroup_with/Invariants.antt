use Rattle.lot_threads.proofs.told.regroup_with.Given as goal

abbrev pub ghost-regroup : goal.ghost-regroup
ghost-regroup g a = g.after
