use Rattle.std.proofs.Common.{◌≡◌, ◌≤◌, ◌+◌, drop}
use Rattle.lot_litmus.specs.Steps.{unended}
use Rattle.lot_litmus.proofs.test.Test.unended.Given as goal

abbrev pub invariant-loop-index : goal.invariant-loop-index
invariant-loop-index l =
    (l.count + unended (drop l.index l.self.codes) (drop l.index l.state.threads) ≡ unended l.self.codes l.state.threads)
    × (l.count ≤ l.index)
