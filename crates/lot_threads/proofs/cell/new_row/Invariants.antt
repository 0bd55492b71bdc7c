use Rattle.std.proofs.Common.{◌≡◌, length}
use Rattle.lot_threads.specs.Cells.{IsCellLock, home_of}
use Rattle.lot_threads.specs.Rows.{EachAt}
use Rattle.lot_threads.proofs.cell.new_row.Given as goal

abbrev pub invariant-loop-place : goal.invariant-loop-place
invariant-loop-place l = record {
  size : l.key.size ≡ l.size;
  threads : l.key.max_threads ≡ l.max_threads;
  limit : l.key.limit ≡ l.limit;
  home : home_of l.key.home ≡ home_of l.fn.home;
  count : length l.row.items ≡ l.place;
  locks : EachAt (IsCellLock (home_of l.fn.home) l.max_threads l.limit l.size) 0 l.row.items;
}
