use Rattle.lot_litmus.specs.Search.{IsSearch}
use Rattle.lot_litmus.proofs.explore.explore_watched.Given as goal

abbrev pub invariant-loop-index : goal.invariant-loop-index
invariant-loop-index g l = IsSearch l.test l.search
