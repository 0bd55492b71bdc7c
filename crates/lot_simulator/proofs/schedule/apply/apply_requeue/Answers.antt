use Rattle.std.proofs.Common.{rules, ◌≡◌, ◌∙◌, ap, subst}
use Rattle.lot_base.specs.Waiting.{requeue_result, split_by}
use Rattle.lot_base.specs.declared.token.RequeueOp.{RequeueOp}
use Rattle.lot_machine.specs.declared.step.Answer.TheVariants.{Unpark}
use Rattle.lot_machine.specs.Machine.{after_requeue}
use Rattle.lot_machine.specs.Steps.{Gives}
use Rattle.lot_simulator.specs.Lot.{machine}
use Rattle.lot_simulator.specs.Represents.{waiters_in}
use Rattle.lot_machine.proofs.AnswerLemmas.{after_requeue-token}
use Rattle.lot_simulator.proofs.schedule.apply.apply_requeue.Goals as goal

pub returns-clause-step : goal.returns-clause-step
returns-clause-step c =
    let requeue = c.unpark_requeue.ensures.requeued in
    let m = machine c.args.lot.now in
    let waiters = waiters_in c.args.lot.now.buckets c.args.from in
    let same : requeue.op ≡ c.args.op = search rules in
    subst (λ (op : RequeueOp). Gives (after_requeue m c.args.from c.args.to (split_by op waiters) c.args.token)
    (Unpark (requeue_result op (split_by op waiters))) (Unpark c.unpark_requeue.result)
    (machine c.unpark_requeue.new.self)) same (
      ap Unpark requeue.answer,
      requeue.taken.2 ∙ after_requeue-token m c.args.from c.args.to requeue.op waiters requeue.taken.0 c.args.token
          (λ other. let called = requeue.taken.1 other in search rules),
    )
