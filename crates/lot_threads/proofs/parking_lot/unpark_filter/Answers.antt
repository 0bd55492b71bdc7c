use Rattle.lot_threads.specs.Filters.{tokens_in}
use Rattle.lot_threads.proofs.parking_lot.unpark_filter.Goals as goal

pub unpark_filter-requires-clause-callable : goal.unpark_filter-requires-clause-callable
unpark_filter-requires-clause-callable g c κs within = record {
  may_filter = λ m finds. c.requires.callable.may_filter (tokens_in m c.args.key);
  may_call_back = λ m finds waiters same decisions filtered.
      c.requires.callable.may_call_back waiters decisions filtered;
}
