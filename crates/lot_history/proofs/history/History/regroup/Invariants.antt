use Rattle.lot_history.proofs.history.History.regroup.Given as goal

-- the step is the witness's, on this history
abbrev pub ghosts-regroup_as : goal.ghosts-regroup_as
ghosts-regroup_as g a = record {
  max_threads = a.self.now.table.shared.key.max_threads;
  number = a.me.now.seat.id;
  after = g.after;
}
