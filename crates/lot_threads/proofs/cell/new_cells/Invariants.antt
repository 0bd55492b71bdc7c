use Rattle.std.proofs.Common.{◌≡◌, ◌-◌, length}
use Rattle.lot_history.specs.Witness.{IsPartOf, IsStill, id_of, pieces_of}
use Rattle.lot_threads.specs.Cells.{IsCellLock}
use Rattle.lot_threads.specs.Rows.{EachAt, empty_lists, other_pieces}
use Rattle.lot_threads.proofs.cell.new_cells.Given as goal

-- the buckets so far, and the pieces of the others
abbrev pub invariant-loop-place : goal.invariant-loop-place
invariant-loop-place l = record {
  still : IsStill l.history l.fn.me l.me;
  size : l.key.size ≡ l.size;
  threads : l.key.max_threads ≡ l.max_threads;
  limit : l.key.limit ≡ l.limit;
  home : IsPartOf (id_of l.history) l.key.home;
  count : length l.cells.items ≡ l.place;
  pieces : pieces_of l.me ≡ empty_lists l.limit l.size l.place (l.size - l.place)
      (other_pieces l.max_threads l.limit);
  cells : EachAt (IsCellLock (id_of l.history) l.max_threads l.limit l.size) 0 l.cells.items;
}
