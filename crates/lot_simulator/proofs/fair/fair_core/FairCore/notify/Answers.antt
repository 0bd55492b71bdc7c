use Rattle.std.proofs.Common.{rules, ◌≡◌, ℕ, ◌<◌, ◌≤◌, List, length, map, refl, ap, subst, sym, ◌∙◌, arith}
use Rattle.lot_base.specs.Waiting.{split_by, requeue_result}
use Rattle.lot_base.specs.declared.token.RequeueOp.{RequeueOp}
use Rattle.lot_base.specs.declared.token.RequeueOp.TheVariants.{Abort, UnparkOneRequeueRest, RequeueAll, UnparkOne}
use Rattle.lot_base.specs.declared.token.RequeueOp.TheVariants.{RequeueOne}
use Rattle.lot_base.specs.declared.token.TheConstants.{DEFAULT_UNPARK_TOKEN}
use Rattle.lot_base.specs.declared.token.UnparkResult.{UnparkResult}
use Rattle.lot_simulator.specs.LotState.{LotState}
use Rattle.lot_simulator.specs.Lot.{machine}
use Rattle.lot_machine.specs.Machine.{after_requeue}
use Rattle.lot_machine.proofs.AnswerLemmas.{after_requeue-token}
use Rattle.lot_simulator.specs.declared.fair.fair_core.Holder.{Holder}
use Rattle.lot_simulator.specs.declared.fair.fair_core.Holder.TheVariants.{Taken}
use Rattle.lot_simulator.specs.declared.fair.fair_core.TheConstants.{MUTEX_KEY, CONDVAR_KEY}
use Rattle.lot_simulator.specs.declared.fair.schedule.FairAnswer.TheVariants.{Notified}
use Rattle.lot_simulator.specs.FairCoreState.{FairCoreState}
use Rattle.lot_simulator.specs.FairCore.{fair_state, IsFairCore}
use Rattle.lot_simulator.specs.FairMachine.{FairState}
use Rattle.lot_simulator.specs.FairSteps.{IsNotifyBy, FitsNotify}
use Rattle.lot_simulator.proofs.FairCoreLemmas.{requeue_result-numbers}
use Rattle.lot_simulator.proofs.FairStepLemmas.{Leaves-notified, Leaves-moved}
use Rattle.lot_simulator.proofs.fair.fair_core.FairCore.notify.Goals as goal

-- an answer tells how many were handed the mutex
counted : (m : FairState) (op : RequeueOp) (sleepers : List ℕ) → FitsNotify m op
    → (requeue_result op (split_by op sleepers)).unparked_threads ≡ length (split_by op sleepers).taken
counted m Abort sleepers none = absurd none
counted m UnparkOneRequeueRest sleepers fits = refl
counted m RequeueAll sleepers fits = refl
counted m UnparkOne sleepers fits = refl
counted m RequeueOne sleepers fits = refl

-- what the step leaves is a core, and is one step on
module _ (lot new : LotState) (noted : Holder) (core : FairCoreState)
    (same : record { lot = lot; holder = noted } ≡ core) (right : IsFairCore (record { lot = lot; holder = noted }))
    (op : RequeueOp) (result : UnparkResult)
    (new_is : machine new ≡ after_requeue (machine lot) CONDVAR_KEY MUTEX_KEY
    (split_by op ((machine lot).lists CONDVAR_KEY)) DEFAULT_UNPARK_TOKEN)
    (answer : result ≡ requeue_result op (split_by op ((machine lot).lists CONDVAR_KEY))) where
  told : result ≡ requeue_result op (split_by op (map (λ waiter. waiter.number) ((machine lot).lists CONDVAR_KEY)))
  told = answer ∙ requeue_result-numbers op ((machine lot).lists CONDVAR_KEY)

  abbrev old : FairState
  old = fair_state (record { lot = lot; holder = noted })

  taken : FitsNotify old op → result.unparked_threads ≡ length (split_by op old.sleepers).taken
  taken fits = ap (λ (r : UnparkResult). r.unparked_threads) told ∙ counted old op old.sleepers fits

  notified : FitsNotify (fair_state core) op → 0 < result.unparked_threads
      → IsFairCore (record { lot = new; holder = Taken })
      × IsNotifyBy (fair_state core) op (Notified result) (fair_state (record { lot = new; holder = Taken }))
  notified fits some =
      subst (λ (c : FairCoreState). FitsNotify (fair_state c) op → IsFairCore (record { lot = new; holder = Taken })
      × IsNotifyBy (fair_state c) op (Notified result) (fair_state (record { lot = new; holder = Taken }))) same
      (λ fits_now. let left = Leaves-notified lot noted right new op DEFAULT_UNPARK_TOKEN fits_now new_is
      (subst (λ n. 0 < n) (taken fits_now) some) in
      (left.kept, (ap Notified told, left.state))) fits

  moved : FitsNotify (fair_state core) op → result.unparked_threads ≤ 0
      → IsFairCore (record { lot = new; holder = noted })
      × IsNotifyBy (fair_state core) op (Notified result) (fair_state (record { lot = new; holder = noted }))
  moved fits none =
      subst (λ (c : FairCoreState). FitsNotify (fair_state c) op → IsFairCore (record { lot = new; holder = noted })
      × IsNotifyBy (fair_state c) op (Notified result) (fair_state (record { lot = new; holder = noted }))) same
      (λ fits_now. let left = Leaves-moved lot noted right new op DEFAULT_UNPARK_TOKEN fits_now new_is
      (sym (taken fits_now) ∙ (omega (arith, none))) in
      (left.kept, (ap Notified told, left.state))) fits

pub invariant_of-self : goal.invariant_of-self
invariant_of-self c =
    let requeue = c.unpark_requeue-result.ensures.requeued in
    let chosen : requeue.op ≡ c.args.op = search rules in
    let m = machine c.self.inside.lot in
    let waiters = (machine c.self.inside.lot).lists CONDVAR_KEY in
    let new_is : machine c.unpark_requeue-result.new.self
    ≡ after_requeue m CONDVAR_KEY MUTEX_KEY (split_by c.args.op waiters) DEFAULT_UNPARK_TOKEN =
    requeue.taken.2
    ∙ after_requeue-token m CONDVAR_KEY MUTEX_KEY requeue.op waiters requeue.taken.0 DEFAULT_UNPARK_TOKEN
    (λ other. let called = requeue.taken.1 other in search rules)
    ∙ ap (λ op. after_requeue m CONDVAR_KEY MUTEX_KEY (split_by op waiters) DEFAULT_UNPARK_TOKEN) chosen in
    let answer : c.unpark_requeue-result.result ≡ requeue_result c.args.op (split_by c.args.op waiters) =
    requeue.answer ∙ ap (λ op. requeue_result op (split_by op waiters)) chosen in
    (notified c.self.inside.lot c.unpark_requeue-result.new.self c.self.inside.holder c.args.self.now c.self.view_is
    c.self.invariant c.args.op c.unpark_requeue-result.result new_is answer c.requires c.if-result-gt0.true).0

pub returns-then-result-gt0 : goal.returns-then-result-gt0
returns-then-result-gt0 c =
    let requeue = c.unpark_requeue-result.ensures.requeued in
    let chosen : requeue.op ≡ c.args.op = search rules in
    let m = machine c.self.inside.lot in
    let waiters = (machine c.self.inside.lot).lists CONDVAR_KEY in
    let new_is : machine c.unpark_requeue-result.new.self
    ≡ after_requeue m CONDVAR_KEY MUTEX_KEY (split_by c.args.op waiters) DEFAULT_UNPARK_TOKEN =
    requeue.taken.2
    ∙ after_requeue-token m CONDVAR_KEY MUTEX_KEY requeue.op waiters requeue.taken.0 DEFAULT_UNPARK_TOKEN
    (λ other. let called = requeue.taken.1 other in search rules)
    ∙ ap (λ op. after_requeue m CONDVAR_KEY MUTEX_KEY (split_by op waiters) DEFAULT_UNPARK_TOKEN) chosen in
    let answer : c.unpark_requeue-result.result ≡ requeue_result c.args.op (split_by c.args.op waiters) =
    requeue.answer ∙ ap (λ op. requeue_result op (split_by op waiters)) chosen in
    (notified c.self.inside.lot c.unpark_requeue-result.new.self c.self.inside.holder c.args.self.now c.self.view_is
    c.self.invariant c.args.op c.unpark_requeue-result.result new_is answer c.requires c.if-result-gt0.true).1

pub invariant_of-self-else-result-gt0 : goal.invariant_of-self-else-result-gt0
invariant_of-self-else-result-gt0 c =
    let requeue = c.unpark_requeue-result.ensures.requeued in
    let chosen : requeue.op ≡ c.args.op = search rules in
    let m = machine c.self.inside.lot in
    let waiters = (machine c.self.inside.lot).lists CONDVAR_KEY in
    let new_is : machine c.unpark_requeue-result.new.self
    ≡ after_requeue m CONDVAR_KEY MUTEX_KEY (split_by c.args.op waiters) DEFAULT_UNPARK_TOKEN =
    requeue.taken.2
    ∙ after_requeue-token m CONDVAR_KEY MUTEX_KEY requeue.op waiters requeue.taken.0 DEFAULT_UNPARK_TOKEN
    (λ other. let called = requeue.taken.1 other in search rules)
    ∙ ap (λ op. after_requeue m CONDVAR_KEY MUTEX_KEY (split_by op waiters) DEFAULT_UNPARK_TOKEN) chosen in
    let answer : c.unpark_requeue-result.result ≡ requeue_result c.args.op (split_by c.args.op waiters) =
    requeue.answer ∙ ap (λ op. requeue_result op (split_by op waiters)) chosen in
    (moved c.self.inside.lot c.unpark_requeue-result.new.self c.self.inside.holder c.args.self.now c.self.view_is
    c.self.invariant c.args.op c.unpark_requeue-result.result new_is answer c.requires c.if-result-gt0.false).0

pub returns-else-result-gt0 : goal.returns-else-result-gt0
returns-else-result-gt0 c =
    let requeue = c.unpark_requeue-result.ensures.requeued in
    let chosen : requeue.op ≡ c.args.op = search rules in
    let m = machine c.self.inside.lot in
    let waiters = (machine c.self.inside.lot).lists CONDVAR_KEY in
    let new_is : machine c.unpark_requeue-result.new.self
    ≡ after_requeue m CONDVAR_KEY MUTEX_KEY (split_by c.args.op waiters) DEFAULT_UNPARK_TOKEN =
    requeue.taken.2
    ∙ after_requeue-token m CONDVAR_KEY MUTEX_KEY requeue.op waiters requeue.taken.0 DEFAULT_UNPARK_TOKEN
    (λ other. let called = requeue.taken.1 other in search rules)
    ∙ ap (λ op. after_requeue m CONDVAR_KEY MUTEX_KEY (split_by op waiters) DEFAULT_UNPARK_TOKEN) chosen in
    let answer : c.unpark_requeue-result.result ≡ requeue_result c.args.op (split_by c.args.op waiters) =
    requeue.answer ∙ ap (λ op. requeue_result op (split_by op waiters)) chosen in
    (moved c.self.inside.lot c.unpark_requeue-result.new.self c.self.inside.holder c.args.self.now c.self.view_is
    c.self.invariant c.args.op c.unpark_requeue-result.result new_is answer c.requires c.if-result-gt0.false).1
