use Rattle.std.proofs.Common.{◌≡◌, length}
use Rattle.lot_litmus.specs.Search.{IsSearch, AreHopeful}
use Rattle.lot_litmus.proofs.search.Search.hopeful.Given as goal

abbrev pub invariant-loop : goal.invariant-loop
invariant-loop l = record {
  hopeful : IsSearch l.test l.self → AreHopeful l.test l.self.states.items l.marks.items;
  length : length l.marks.items ≡ length l.self.states.items;
}
