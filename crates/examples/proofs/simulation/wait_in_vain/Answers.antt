use Rattle.std.proofs.Common.{◌≡◌}
use Rattle.std.proofs.lemmas.Result.{IfOk-weaker}
use Rattle.lot_simulator.specs.Lot.{machine}
use Rattle.examples.proofs.VainLemmas.{IsRun-in_vain}
use Rattle.examples.proofs.simulation.wait_in_vain.Goals as goal

pub returns-clause-unchanged : goal.returns-clause-unchanged
returns-clause-unchanged c =
    IfOk-weaker c.simulate.result _ (λ _. machine c.simulate.new.lot ≡ machine c.args.lot.now)
    (λ answers ran. IsRun-in_vain
    (machine c.args.lot.now) c.args.thread c.args.key _ c.consistency.ensures c.requires answers.items
    (machine c.simulate.new.lot) ran)
    c.simulate.ensures.run
