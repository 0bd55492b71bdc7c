use Rattle.std.proofs.Common.{◌∙◌, ap, map, slice_get, arith}
use Rattle.lot_machine.specs.Machine.{statuses_with_taken}
use Rattle.lot_litmus.specs.Queues.{entries_of}
use Rattle.lot_litmus.specs.View.{machine_of, status_by, waiter_of}
use Rattle.lot_litmus.proofs.ViewLemmas.{after_requeue-is, length-requeued}
use Rattle.lot_litmus.proofs.state.State.move_chosen.Goals as goal

pub append-requires : goal.append-requires
append-requires c =
    let long =
    length-requeued c.args.self.now.queues c.set_queue.new.self.queues c.args.self.now.standings
    c.args.key.number c.args.other.number c.queue.result c.queue-target.result c.part-parts.result
    c.args.chosen.taken c.args.chosen.moved (record { 0 = c.args.token })
    (record {
      here = c.queue.ensures;
      kept_is = ap (λ s. s.queues) c.set_queue.ensures;
      there = c.queue-target.ensures;
      parts_are = c.part-parts.ensures;
    }) in
    omega (arith, long, c.requires)

pub returns-clause-machine : goal.returns-clause-machine
returns-clause-machine c =
    ap (λ queues. machine_of queues c.take_all.new.self.standings)
    (c.take_all.ensures.queues ∙ ap (λ s. s.queues) c.set_queue-2.ensures)
    ∙ after_requeue-is c.args.self.now.queues c.set_queue.new.self.queues c.args.self.now.standings
    c.take_all.new.self.standings c.args.key.number c.args.other.number c.queue.result c.queue-target.result
    c.append.new.self c.part-parts.result c.args.chosen.taken c.args.chosen.moved (record { 0 = c.args.token })
    (record {
      here = c.queue.ensures;
      kept_is = ap (λ s. s.queues) c.set_queue.ensures;
      there = c.queue-target.ensures;
      parts_are = c.part-parts.ensures;
    })
    c.append.ensures
    (λ k. c.take_all.ensures.statuses k ∙ ap (λ standings. statuses_with_taken (record { 0 = c.args.token })
    (map waiter_of (entries_of c.part-parts.result.taken)) (λ j. status_by (slice_get standings j)) k)
    (ap (λ s. s.standings) c.set_queue-2.ensures ∙ ap (λ s. s.standings) c.set_queue.ensures))
