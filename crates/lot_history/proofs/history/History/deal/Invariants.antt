use Rattle.lot_history.proofs.history.History.deal.Given as goal

-- the title is the key's, and goes to the table
abbrev pub ghosts-deal_as : goal.ghosts-deal_as
ghosts-deal_as g a = record { key = a.key; limit = a.limit; home = g.home }
