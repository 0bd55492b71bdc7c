use Rattle.std.proofs.Common.{rules, ◌≡◌, ◌∙◌, ap}
use Rattle.lot_base.specs.Waiting.{requeue_result, split_by}
use Rattle.lot_base.specs.declared.token.RequeueOp.{RequeueOp}
use Rattle.lot_base.specs.declared.token.RequeueOp.TheVariants.{RequeueAll}
use Rattle.lot_machine.specs.Machine.{after_requeue}
use Rattle.lot_simulator.specs.Lot.{machine}
use Rattle.lot_simulator.specs.Represents.{waiters_in}
use Rattle.lot_machine.proofs.AnswerLemmas.{after_requeue-to_itself}
use Rattle.lot_simulator.proofs.laws.requeue_all_to_itself.Goals as goal
use Rattle.lot_simulator.proofs.laws.requeue_all_to_itself.Goals.{After-unpark_requeue}

chosen : (c : After-unpark_requeue) → c.unpark_requeue.ensures.requeued.op ≡ RequeueAll
chosen c = search rules

pub returns-clause-result : goal.returns-clause-result
returns-clause-result c =
    let waiters = waiters_in c.args.lot.now.buckets c.args.key in
    c.unpark_requeue.ensures.requeued.answer ∙ ap (λ (op : RequeueOp). requeue_result op (split_by op waiters))
    (chosen c)

pub returns-clause-unchanged : goal.returns-clause-unchanged
returns-clause-unchanged c =
    let m = machine c.args.lot.now in
    let requeue = c.unpark_requeue.ensures.requeued in
    requeue.taken.2
    ∙ ap (λ (op : RequeueOp). after_requeue m c.args.key c.args.key (split_by op (m.lists c.args.key)) requeue.taken.0)
    (chosen c)
    ∙ after_requeue-to_itself m c.args.key requeue.taken.0
