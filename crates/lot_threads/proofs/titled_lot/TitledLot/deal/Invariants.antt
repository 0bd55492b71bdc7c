use Rattle.lot_history.specs.Witness.{id_of}
use Rattle.lot_threads.proofs.titled_lot.TitledLot.deal.Given as goal

-- for the table of the history: a lock has no table of its own yet when it takes its title
abbrev pub ghost-deal : goal.ghost-deal
ghost-deal g a = id_of a.history.now
