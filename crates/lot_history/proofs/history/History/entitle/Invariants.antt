use Rattle.lot_history.specs.Titles.{titled_pieces}
use Rattle.lot_history.proofs.history.History.entitle.Given as goal

-- the keys below the limit have titles
abbrev pub ghost-entitle_as : goal.ghost-entitle_as
ghost-entitle_as a = titled_pieces a.limit
