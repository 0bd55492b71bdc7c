use Rattle.std.proofs.Common.{rules, arith}
use Rattle.lot_litmus.proofs.ViewLemmas.{unended-past}
use Rattle.lot_litmus.proofs.test.Test.unended.Goals as goal

pub returns : goal.returns
returns c =
    let none = unended-past c.args.self.now.codes c.args.state.now.threads c.loop-index.index (search rules) in
    omega (arith, none, c.loop-index.invariant.0)
