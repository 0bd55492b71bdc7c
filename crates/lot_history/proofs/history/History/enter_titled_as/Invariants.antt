use Rattle.lot_history.proofs.history.History.enter_titled_as.Given as goal

abbrev pub ghost-add : goal.ghost-add
ghost-add g a = g.after
