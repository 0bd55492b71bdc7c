use Rattle.lot_threads.proofs.told.add_with.Given as goal

abbrev pub ghost-add : goal.ghost-add
ghost-add g a = g.after
