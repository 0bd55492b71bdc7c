use Rattle.std.proofs.Common.{◌∙◌, ap, map, slice_get}
use Rattle.std.proofs.lemmas.Option.{slice_get_within}
use Rattle.lot_machine.specs.Machine.{statuses_with_taken}
use Rattle.lot_litmus.specs.Queues.{entries_of}
use Rattle.lot_litmus.specs.View.{machine_of, status_by, waiter_of}
use Rattle.lot_litmus.proofs.ViewLemmas.{after_unpark-is}
use Rattle.lot_litmus.proofs.state.State.take_chosen.Goals as goal

pub returns-clause-machine : goal.returns-clause-machine
returns-clause-machine c =
    ap (λ queues. machine_of queues c.take_all.new.self.standings)
    (c.take_all.ensures.queues ∙ ap (λ s. s.queues) c.set_queue.ensures)
    ∙ after_unpark-is c.args.self.now.queues c.args.self.now.standings c.take_all.new.self.standings c.args.key.number
    c.queue.result c.part-parts.result.left c.part-parts.result.taken c.args.taken (record { 0 = c.args.token })
    (slice_get_within c.args.self.now.queues c.args.key.number c.queue.result c.queue.ensures) c.queue.ensures
    c.part-parts.ensures.left c.part-parts.ensures.taken
    (λ k. c.take_all.ensures.statuses k ∙ ap (λ s. statuses_with_taken (record { 0 = c.args.token })
    (map waiter_of (entries_of c.part-parts.result.taken)) (λ j. status_by (slice_get s.standings j)) k)
    c.set_queue.ensures)
