use Rattle.lot_history.proofs.history.History.register_as.Given as goal

abbrev pub ghost-add : goal.ghost-add
ghost-add g a = g.after.1
