use Rattle.lot_base.proofs.FilterLemmas.{IsFilterCallable-always}
use Rattle.lot_threads.specs.Filters.{tokens_in}
use Rattle.lot_threads.proofs.visitor.Visitor.unpark_chosen.Goals as goal

pub unpark_filter-requires-clause-callable : goal.unpark_filter-requires-clause-callable
unpark_filter-requires-clause-callable g c κs within = record {
  may_filter = λ m finds. IsFilterCallable-always g.F.FnMut (λ filter token. c.requires.filter filter token) c.args.filter
      (tokens_in m c.args.key);
  may_call_back = λ m finds waiters same decisions filtered. c.requires.callback _;
}
