-- Requeues: how they call their closures, and what they add to the history.
use Rattle.std.specs.Prelude.{◌≡◌, ◌≢◌, ℕ, List, [], ◌∷◌}
use Rattle.std.specs.Fn.{Once}
use denote.Ref.{Bor}
use Rattle.lot_base.specs.BucketState.{BucketState}
use Rattle.lot_base.specs.NodeFields.{NodeFields}
use Rattle.lot_base.specs.NodeLists.{with_saturated_counts}
use Rattle.lot_base.specs.Waiting.{split_by, requeue_result}
use Rattle.lot_base.specs.declared.token.RequeueOp.{RequeueOp}
use Rattle.lot_base.specs.declared.token.RequeueOp.TheVariants.{Abort}
use Rattle.lot_base.specs.declared.token.UnparkResult.{UnparkResult}
use Rattle.lot_base.specs.declared.token.UnparkToken.{UnparkToken}
use Rattle.lot_machine.specs.declared.step.Answer.{Answer}
use Rattle.lot_machine.specs.declared.step.Answer.TheVariants as answer
use Rattle.lot_machine.specs.declared.step.Op.TheVariants.{Requeue}
use Rattle.lot_machine.specs.declared.step.Step.{Step}
use Rattle.lot_machine.specs.declared.step.Step.TheVariants.{Unpark}
use Rattle.lot_history.specs.declared.history.History.{History}
use Rattle.lot_history.specs.declared.history.Witness.{Witness}
use Rattle.lot_history.specs.Witness.{Extends, Found, id_of, limit_of}
use Rattle.lot_threads.specs.Cells.{Has, lists_in}
use Rattle.lot_threads.specs.Within.{IsSectionOf, waiters_in}
use Rattle.lot_threads.specs.declared.critical_section.CriticalSection.{CriticalSection}

module _ {V C : Type 0} (v : Once V (Unit {0}) RequeueOp)
    (c : Once C (RequeueOp × (UnparkResult × Unit {0})) UnparkToken) where
  -- `validate` may be called, and after that the callback with what it chose and the result, but not at an abort
  pub record MayRequeue (validate : V) (callback : C) : Type 0 where
    pub may_choose : v.pre validate tt
    pub may_call_back : (op : RequeueOp) → v.post validate tt op → op ≢ Abort → (waiters : List NodeFields)
        → c.pre callback (op, (with_saturated_counts (requeue_result op (split_by op waiters)), tt))

  -- `validate` chose so, and then the callback was handed that and the result, and answered the token; at an abort it
  -- was not called, and the token says nothing
  pub record Chooses (validate : V) (callback : C) (op : RequeueOp) (result : UnparkResult) (token : UnparkToken)
      : Type 0 where
    pub chosen : v.post validate tt op
    pub called : op ≢ Abort → c.post callback (op, (result, tt)) token

  -- it chose something, and the callback was handed that and this result, but not at an abort
  pub record ChoseRequeue (validate : V) (callback : C) (result : UnparkResult) : Type 0 where
    pub op : RequeueOp
    pub token : UnparkToken
    pub calls : Chooses validate callback op result token

  -- the requeue that was chosen was added
  pub record Requeues (validate : V) (callback : C) (from to : ℕ) (history : History) (old : Witness)
      (result : UnparkResult) (new : Witness) : Type 0 where
    pub op : RequeueOp
    pub token : UnparkToken
    pub calls : Chooses validate callback op result token
    pub extends : Extends history old (Unpark (Requeue from to op token)) (answer.Unpark result) new

-- closures that are lent the critical section of the first key's bucket
module _ {V C : Type 0} (v : Once V (Bor CriticalSection × Unit {0}) RequeueOp)
    (c : Once C (Bor CriticalSection × (RequeueOp × (UnparkResult × Unit {0}))) UnparkToken) where
  -- `validate` may be called there, and after that the callback with what it chose and the result, but not at an abort
  pub record MayRequeueWithin (validate : V) (callback : C) (history : History) (from : ℕ) : Type 0 where
    pub may_choose : (asked : Bor CriticalSection) → IsSectionOf history from asked.now → v.pre validate (asked, tt)
    pub may_call_back : (asked lent : Bor CriticalSection) → IsSectionOf history from asked.now → lent.now ≡ asked.now
        → (op : RequeueOp) → v.post validate (asked, tt) op → op ≢ Abort → (waiters : List NodeFields)
        → c.pre callback (lent, (op, (with_saturated_counts (requeue_result op (split_by op waiters)), tt)))

  -- there `validate` chose so, and then the callback was handed that and the result, and answered the token; at an abort
  -- it was not called, and the token says nothing
  pub record ChoosesWithin (validate : V) (callback : C) (section : CriticalSection) (op : RequeueOp)
      (result : UnparkResult) (token : UnparkToken) : Type 0 where
    pub asked : Bor CriticalSection
    pub is_asked_there : asked.now ≡ section
    pub chosen : v.post validate (asked, tt) op
    pub called : op ≢ Abort
        → (lent : Bor CriticalSection) × (lent.now ≡ section) × c.post callback (lent, (op, (result, tt))) token

  -- the step is the requeue that was chosen in a section that has the part of this bucket, and answers this result
  pub record IsRequeueWithin (validate : V) (callback : C) (history : History) (bucket : BucketState) (from to : ℕ)
      (result : UnparkResult) (s : Step) (a : Answer) : Type 0 where
    pub section : CriticalSection
    pub has : Has (id_of history) (lists_in (limit_of history) bucket ∷ []) section.part
    pub op : RequeueOp
    pub token : UnparkToken
    pub calls : ChoosesWithin validate callback section op result token
    pub step : s ≡ Unpark (Requeue from to op token)
    pub answer : a ≡ answer.Unpark result

  -- the requeue was added that was chosen in a critical section in which the threads waited on the first key that the
  -- requeue found there
  pub record RequeuesWithin (validate : V) (callback : C) (from to : ℕ) (history : History) (old : Witness)
      (result : UnparkResult) (new : Witness) : Type 0 where
    pub section : CriticalSection
    pub within : IsSectionOf history from section
    pub op : RequeueOp
    pub token : UnparkToken
    pub calls : ChoosesWithin validate callback section op result token
    pub extends : Extends history old (Unpark (Requeue from to op token)) (answer.Unpark result) new
    pub found : Found history old new
    pub finds : found.machine.lists from ≡ waiters_in section from
