use Rattle.std.proofs.Common.{◌∙◌, ap, length, arith}
use Rattle.std.specs.Prelude.{slice_get}
use Rattle.lot_base.specs.Waiting.{split_by}
use Rattle.lot_machine.specs.Machine.{after_requeue}
use Rattle.lot_litmus.specs.Steps.{advanced, requeue_of, with_machine, Does}
use Rattle.lot_litmus.specs.View.{configuration_of, machine_of, waiters_by}
use Rattle.lot_litmus.proofs.PartLemmas.{length-requeue}
use Rattle.lot_litmus.proofs.ViewLemmas.{length-waiters, configuration-is}
use Rattle.lot_litmus.proofs.state.State.requeue.Goals as goal

pub move_chosen-requires : goal.move_chosen-requires
move_chosen-requires c =
    let m = machine_of c.args.self.now.queues c.args.self.now.standings in
    let parts = c.chosen.ensures (waiters_by (slice_get c.args.self.now.queues c.args.key.number))
    (length-waiters c.args.self.now.queues c.args.key.number) in
    let fits = length-requeue m c.args.key.number c.args.other.number (requeue_of c.args.moves) (record { 0 = c.args.token })
    c.args.other.number c.requires.consistent in
    let same = ap (λ split. length ((after_requeue m c.args.key.number c.args.other.number split
    (record { 0 = c.args.token })).lists c.args.other.number)) parts in
    omega (arith, fits, same)

pub returns : goal.returns
returns c =
    ap (λ next. Does next c.advanced.result)
    (configuration-is c.move_chosen.new.self c.args.self.now _ (c.move_chosen.ensures.machine
    ∙ ap (λ split. after_requeue (machine_of c.args.self.now.queues c.args.self.now.standings) c.args.key.number
    c.args.other.number split (record { 0 = c.args.token }))
    (c.chosen.ensures (waiters_by (slice_get c.args.self.now.queues c.args.key.number))
    (length-waiters c.args.self.now.queues c.args.key.number)))
    c.move_chosen.ensures.words c.move_chosen.ensures.threads)
    ∙ ap (Does (with_machine (configuration_of c.args.self.now) (after_requeue
    (machine_of c.args.self.now.queues c.args.self.now.standings) c.args.key.number c.args.other.number
    (split_by (requeue_of c.args.moves) (waiters_by (slice_get c.args.self.now.queues c.args.key.number)))
    (record { 0 = c.args.token })))) (c.advanced.ensures ∙ ap advanced c.unlocked.ensures)
