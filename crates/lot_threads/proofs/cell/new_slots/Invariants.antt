use Rattle.std.proofs.Common.{◌≡◌, ◌+◌, ◌^◌, length}
use Rattle.lot_threads.specs.Cells.{IsSlotAt, home_of}
use Rattle.lot_threads.specs.Rows.{EachAt}
use Rattle.lot_threads.proofs.cell.new_slots.Given as goal

-- the places so far, and the size of the next row
abbrev pub invariant-loop-index : goal.invariant-loop-index
invariant-loop-index l = record {
  size : l.key.size ≡ 2 ^ (l._index + 4);
  threads : l.key.max_threads ≡ l.max_threads;
  limit : l.key.limit ≡ l.limit;
  home : home_of l.key.home ≡ home_of l.fn.home;
  count : length l.rows.items ≡ l._index;
  each : EachAt (IsSlotAt (home_of l.fn.home) l.max_threads l.limit) 0 l.rows.items;
}
