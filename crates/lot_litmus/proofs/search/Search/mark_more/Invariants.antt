use Rattle.std.proofs.Common.{◌≡◌, length}
use Rattle.lot_litmus.specs.Search.{IsSearch, AreHopeful}
use Rattle.lot_litmus.proofs.search.Search.mark_more.Given as goal

abbrev pub invariant-loop-passed : goal.invariant-loop-passed
invariant-loop-passed l = record {
  hopeful : IsSearch l.test l.self → AreHopeful l.test l.self.states.items l.fn.marks.items
      → AreHopeful l.test l.self.states.items l.marks.items;
  length : length l.marks.items ≡ length l.fn.marks.items;
}
