use Rattle.lot_base.proofs.FilterLemmas.{IsFilterCallable-always}
use Rattle.lot_simulator.proofs.lot.Lot.unpark_chosen.Goals as goal

pub unpark_filter-requires-clause-filter : goal.unpark_filter-requires-clause-filter
unpark_filter-requires-clause-filter g c =
    IsFilterCallable-always g.F.FnMut (λ filter token. c.requires.filter filter token) c.args.filter _
