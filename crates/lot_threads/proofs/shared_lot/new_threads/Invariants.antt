use Rattle.std.proofs.Common.{◌≡◌, length}
use Rattle.lot_history.specs.Witness.{IsPartOf, id_of}
use Rattle.lot_threads.specs.Cells.{home_of}
use Rattle.lot_threads.specs.Rows.{EachAt}
use Rattle.lot_threads.proofs.shared_lot.new_threads.Given as goal

abbrev pub invariant-loop-number : goal.invariant-loop-number
invariant-loop-number g l = record {
  home : IsPartOf (id_of l.history) l.key.home;
  count : length l.threads.items ≡ l.number;
  threads : EachAt (λ number thread. (g.P.ParkerT.owner thread.parker ≡ number)
      × (home_of (g.P.ParkerT.home thread.parker) ≡ id_of l.history)) 0 l.threads.items;
}
