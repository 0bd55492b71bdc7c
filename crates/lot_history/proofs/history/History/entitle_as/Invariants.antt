use Rattle.lot_history.proofs.history.History.entitle_as.Given as goal

abbrev pub ghost-regroup : goal.ghost-regroup
ghost-regroup g a = g.after
