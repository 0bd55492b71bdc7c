use Rattle.lot_history.proofs.history.History.add.Given as goal

-- the step is the witness's, on this history
abbrev pub ghosts-add_as : goal.ghosts-add_as
ghosts-add_as g a = record {
  max_threads = a.self.now.table.shared.key.max_threads;
  number = a.me.now.seat.id;
  after = g.after;
}
