use Rattle.std.proofs.Common.{rules, ◌∙◌, ap}
use Rattle.std.specs.Prelude.{slice_set}
use Rattle.std.proofs.lemmas.Option.{slice_get_within}
use Rattle.lot_litmus.specs.declared.state.Standing.TheVariants as standing
use Rattle.lot_litmus.specs.declared.state.State.{State}
use Rattle.lot_litmus.specs.View.{machine_of}
use Rattle.lot_litmus.proofs.ViewLemmas.{after_enter-is}
use Rattle.lot_litmus.proofs.state.State.enter.Goals as goal

pub returns-clause-machine : goal.returns-clause-machine
returns-clause-machine c =
    ap (λ s. machine_of s.queues s.standings)
    (c.set_standing.ensures ∙ ap {A = State} {B = State} (λ s. record s {
      standings = slice_set s.standings c.args.thread.number (standing.Waiting c.args.timing);
    }) c.set_queue.ensures)
    ∙ after_enter-is c.args.self.now.queues c.args.self.now.standings c.args.key.number c.queue-queue.result
    c.push.new.self (record { thread = c.args.thread; token = c.args.token; timing = c.args.timing })
    (slice_get_within _ _ _ c.queue-queue.ensures) (search rules) c.queue-queue.ensures c.push.ensures
