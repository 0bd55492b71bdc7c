use Rattle.std.proofs.Common.{rules, ◌∙◌, ap}
use Rattle.lot_litmus.specs.View.{machine_of}
use Rattle.lot_litmus.proofs.ViewLemmas.{with_status-is}
use Rattle.lot_litmus.proofs.state.State.turn.Goals as goal

pub returns-clause-machine : goal.returns-clause-machine
returns-clause-machine c =
    ap (λ s. machine_of s.queues s.standings) c.set_standing.ensures
    ∙ with_status-is c.args.self.now.queues c.args.self.now.standings c.args.thread.number c.args.standing
    (search rules)
