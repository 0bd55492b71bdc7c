use Rattle.std.proofs.Common.{[]}
use Rattle.lot_history.proofs.history.History.hear.Given as goal

-- the step is the witness's, on this history
abbrev pub ghosts-look_as : goal.ghosts-look_as
ghosts-look_as a = record {
  max_threads = a.self.now.table.shared.key.max_threads;
  number = a.me.now.seat.id;
  after = [];
}
