use Rattle.std.proofs.Common.{rules, ◌∙◌, ap}
use Rattle.std.specs.Prelude.{slice_set}
use Rattle.std.proofs.lemmas.Option.{slice_get_within}
use Rattle.lot_litmus.specs.declared.state.Standing.TheVariants as standing
use Rattle.lot_litmus.specs.declared.state.State.{State}
use Rattle.lot_litmus.specs.View.{machine_of}
use Rattle.lot_litmus.proofs.ViewLemmas.{after_timeout-is}
use Rattle.lot_litmus.proofs.state.State.leave.Goals as goal

pub returns-clause-machine : goal.returns-clause-machine
returns-clause-machine c =
    ap (λ s. machine_of s.queues s.standings)
    (c.set_standing.ensures ∙ ap {A = State} {B = State} (λ s. record s {
      standings = slice_set s.standings c.args.thread.number standing.Running;
    }) c.set_queue.ensures)
    ∙ after_timeout-is c.args.self.now.queues c.args.self.now.standings c.args.key.number c.args.thread.number
    c.queue.result c.without-left.result
    (slice_get_within _ _ _ c.queue.ensures) (search rules) c.queue.ensures c.without-left.ensures
