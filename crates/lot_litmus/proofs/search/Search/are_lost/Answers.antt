use Rattle.std.proofs.Common.{arith}
use Rattle.lot_litmus.proofs.SearchLemmas.{lost}
use Rattle.lot_litmus.proofs.search.Search.are_lost.Goals as goal

pub returns : goal.returns
returns c =
    λ _. lost c.args.test.now c.args.self.now c.requires.search c.requires.complete c.args.marks.now c.requires.all
    (λ i below. c.loop-index.invariant i (let end = c.loop-index-test.false in omega (arith, below, end)))
