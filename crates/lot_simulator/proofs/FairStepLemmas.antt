-- In which state each step leaves a core, and that it is a core again.
use Rattle.std.proofs.Common.{◌≡◌, ◌≢◌, ℕ, ◌<◌, Bool, true, false, IsTrue, List, [], ◌∷◌, length, take}
use Rattle.std.proofs.Common.{drop, map, refl, sym, ap, ◌∙◌, subst, ⊎_elim, arith}
use Rattle.std.proofs.lemmas.Bool.{cases_eq, false≢true}
use Rattle.lot_base.proofs.ValueLemmas.{with_value-same, with_value-other}
use Rattle.lot_base.specs.Waiting.{with_value, split_first, split_by}
use Rattle.lot_base.specs.declared.token.ParkToken.{ParkToken}
use Rattle.lot_base.specs.declared.token.RequeueOp.{RequeueOp}
use Rattle.lot_base.specs.declared.token.RequeueOp.TheVariants.{Abort, UnparkOneRequeueRest, RequeueAll, UnparkOne}
use Rattle.lot_base.specs.declared.token.RequeueOp.TheVariants.{RequeueOne}
use Rattle.lot_base.specs.declared.token.UnparkToken.{UnparkToken}
use Rattle.lot_simulator.specs.LotState.{LotState}
use Rattle.lot_simulator.specs.Lot.{machine}
use Rattle.lot_machine.specs.declared.status.Status.TheVariants as status
use Rattle.lot_machine.specs.Machine as lot_machine
use Rattle.lot_machine.specs.Machine.{Machine, Waiter, after_retire, after_enter, after_unpark, after_requeue}
use Rattle.lot_simulator.specs.declared.fair.fair_core.FairStatus.{FairStatus}
use Rattle.lot_simulator.specs.declared.fair.fair_core.FairStatus.TheVariants.{Free, Idle, Holding, Queued, Leaving, Handed}
use Rattle.lot_simulator.specs.declared.fair.fair_core.Holder.{Holder}
use Rattle.lot_simulator.specs.declared.fair.fair_core.Holder.TheVariants as holder
use Rattle.lot_simulator.specs.declared.fair.fair_core.TheConstants.{MUTEX_KEY, CONDVAR_KEY}
use Rattle.lot_simulator.specs.declared.fair.schedule.FairAnswer.{FairAnswer}
use Rattle.lot_simulator.specs.FairMachine.{FairState, IsUnlocked, IsLocked, IsFairConsistent, IsLeastFree, IsFull, holds, stands}
use Rattle.lot_simulator.specs.FairMachine.{with_status, with_handed, let_go}
use Rattle.lot_simulator.specs.FairMachine.{after_queue, after_wait, after_release, after_notify}
use Rattle.lot_simulator.specs.FairSteps.{FitsNotify, IfFits}
use Rattle.lot_simulator.specs.FairCoreState.{FairCoreState}
use Rattle.lot_simulator.specs.FairCore.{IsFairCore, fair_state, state_of, fair_status, is_noted, keeps_hold, MatchesHolder}
use Rattle.lot_simulator.proofs.FairMachineLemmas.{holds-keeps_hold, IsFairConsistent-with_status, IsFairConsistent-locked}
use Rattle.lot_simulator.proofs.FairMachineLemmas.{IsFairConsistent-queue, IsFairConsistent-wait, IsFairConsistent-release}
use Rattle.lot_simulator.proofs.FairMachineLemmas.{IsFairConsistent-notify, IsUnlocked-let_go}
use Rattle.lot_simulator.proofs.FairCoreLemmas.{same_state, free_in_lot, running_idle, noted_holding, fair_status-let_go}
use Rattle.lot_simulator.proofs.FairCoreLemmas.{is_noted-thread, is_noted-own, is_noted-keeps, is_noted-not}
use Rattle.lot_simulator.proofs.FairCoreLemmas.{is_noted-unlocked, state_of-with_status, state_of-noted, state_of-alike}
use Rattle.lot_simulator.proofs.FairCoreLemmas.{state_of-after_unpark, state_of-after_requeue, state_of-enter_mutex}
use Rattle.lot_simulator.proofs.FairCoreLemmas.{state_of-enter_condvar, MatchesHolder-with_status, handed_first, handed_none}

-- a step that fits
pub IfFits-fits : (fits : Bool) (rule : Type 0) (m : FairState) (given : FairAnswer) (new : FairState) → fits ≡ true
    → rule → IfFits fits rule m given new
IfFits-fits fits rule m given new is does = subst (λ b. IfFits b rule m given new) (sym is) does

-- a step leaves a core, and leaves it in this state
pub record Leaves (expected : FairState) (core : FairCoreState) : Type 0 where
  pub state : fair_state core ≡ expected
  pub kept : IsFairCore core

pub Leaves-from : (expected : FairState) (core : FairCoreState) → fair_state core ≡ expected → IsFairConsistent expected
    → MatchesHolder expected core.holder → Leaves expected core
Leaves-from expected core is consistent noted = record {
  state = is;
  kept = record {
    consistent = subst IsFairConsistent (sym is) consistent;
    noted = subst (λ m. MatchesHolder m core.holder) (sym is) noted;
  };
}

with_status-twice : (m : FairState) (t : ℕ) (first second : FairStatus)
    → with_status (with_status m t first) t second ≡ with_status m t second
with_status-twice m t first second = same_state _ _ refl refl statuses refl
  where
    statuses : (j : ℕ) → with_value (with_value m.status t first) t second j ≡ with_value m.status t second j
    statuses j =
        ⊎_elim (λ (same : j ≡ t). with_value-same (with_value m.status t first) t second j same
        ∙ sym (with_value-same m.status t second j same))
        (λ (other : j ≢ t). with_value-other (with_value m.status t first) t second j other
        ∙ with_value-other m.status t first j other ∙ sym (with_value-other m.status t second j other))
        (cases_eq j t)

MatchesHolder-alike : (m new : FairState) (noted : Holder) → ((j : ℕ) → new.status j ≡ m.status j)
    → MatchesHolder m noted → MatchesHolder new noted
MatchesHolder-alike m new holder.Nobody alike unlocked = λ j. ap holds (alike j) ∙ unlocked j
MatchesHolder-alike m new holder.Taken alike (number, handed) = (number, alike number ∙ handed)
MatchesHolder-alike m new (holder.Thread thread) alike keeps = ap keeps_hold (alike thread) ∙ keeps

abbrev core_of : LotState → Holder → FairCoreState
core_of lot noted = record { lot = lot; holder = noted }

module _ (lot : LotState) (noted : Holder) (right : IsFairCore (core_of lot noted)) where
  abbrev m : Machine
  m = machine lot

  abbrev old : FairState
  old = fair_state (core_of lot noted)

  -- the least free number of the lot
  pub IsLeastFree-lot : (number : ℕ) → lot_machine.IsLeastFree m number → IsLeastFree old number
  IsLeastFree-lot number least = record {
    below = least.below;
    free = ap (λ s. fair_status s (is_noted noted number)) least.free;
    least = λ k low free. least.least k low (free_in_lot (m.status k) (is_noted noted k) free);
  }

  pub IsFull-lot : lot_machine.IsFull m → IsFull old
  IsFull-lot full k low free = full k low (free_in_lot (m.status k) (is_noted noted k) free)

  pub IsFull-of_lot : IsFull old → lot_machine.IsFull m
  IsFull-of_lot full k low free = full k low (ap (λ s. fair_status s (is_noted noted k)) free)

  pub Leaves-registered : (new : LotState) (number : ℕ) → lot_machine.IsLeastFree m number
      → machine new ≡ lot_machine.with_status m number status.Running
      → Leaves (with_status old number Idle) (core_of new noted)
  Leaves-registered new number least new_is =
      let is : old.status number ≡ Free = ap (λ s. fair_status s (is_noted noted number)) least.free in
      Leaves-from (with_status old number Idle) (core_of new noted)
      (ap (λ n. state_of n noted) new_is ∙ state_of-with_status m noted number status.Running
      ∙ ap (λ b. with_status old number (fair_status status.Running b))
      (is_noted-not old noted number right.noted (ap keeps_hold is)))
      (IsFairConsistent-with_status old number Idle (ap holds (sym is)) (ap stands (sym is)) right.consistent)
      (MatchesHolder-with_status old noted number Idle (ap holds (sym is))
      (λ handed. let same : Free ≡ Handed = sym is ∙ handed in absurd cc)
      (λ keeps. absurd (false≢true (ap keeps_hold (sym is) ∙ keeps))) right.noted)

  pub Leaves-retired : (new : LotState) (t : ℕ) → old.status t ≡ Idle → machine new ≡ after_retire m t
      → Leaves (with_status old t Free) (core_of new noted)
  Leaves-retired new t is new_is =
      Leaves-from (with_status old t Free) (core_of new noted)
      (ap (λ n. state_of n noted) new_is ∙ state_of-with_status m noted t status.Free)
      (IsFairConsistent-with_status old t Free (ap holds (sym is)) (ap stands (sym is)) right.consistent)
      (MatchesHolder-with_status old noted t Free (ap holds (sym is))
      (λ handed. let same : Idle ≡ Handed = sym is ∙ handed in absurd cc)
      (λ keeps. absurd (false≢true (ap keeps_hold (sym is) ∙ keeps))) right.noted)

  pub Leaves-locked : (t : ℕ) → IsUnlocked old → old.status t ≡ Idle
      → Leaves (with_status old t Holding) (core_of lot (holder.Thread t))
  Leaves-locked t unlocked is =
      let runs : m.status t ≡ status.Running = running_idle (m.status t) (is_noted noted t) is in
      Leaves-from (with_status old t Holding) (core_of lot (holder.Thread t))
      (state_of-noted m noted (holder.Thread t) t
      (λ j other. is_noted-thread t j other ∙ sym (is_noted-unlocked old noted j right.noted unlocked))
      ∙ ap (λ s. with_status old t (fair_status s (is_noted (holder.Thread t) t))) runs
      ∙ ap (λ b. with_status old t (fair_status status.Running b)) (is_noted-own t))
      (IsFairConsistent-locked old t unlocked is right.consistent)
      (ap keeps_hold (with_value-same old.status t Holding t refl))

  pub Leaves-queued : (new : LotState) (t : ℕ) (token : ParkToken) → IsLocked old → old.status t ≡ Idle
      → machine new ≡ after_enter m t MUTEX_KEY token false → Leaves (after_queue old t) (core_of new noted)
  Leaves-queued new t token locked is new_is =
      Leaves-from (after_queue old t) (core_of new noted)
      (ap (λ n. state_of n noted) new_is
      ∙ state_of-enter_mutex m noted t token (is_noted-not old noted t right.noted (ap keeps_hold is)))
      (IsFairConsistent-queue old t locked is right.consistent)
      (MatchesHolder-alike (with_status old t Queued) (after_queue old t) noted (λ j. refl)
      (MatchesHolder-with_status old noted t Queued (ap holds (sym is))
      (λ handed. let same : Idle ≡ Handed = sym is ∙ handed in absurd cc)
      (λ keeps. absurd (false≢true (ap keeps_hold (sym is) ∙ keeps))) right.noted))

  pub Leaves-waiting : (new : LotState) (t : ℕ) (token : ParkToken) → old.status t ≡ Holding
      → machine new ≡ after_enter m t CONDVAR_KEY token false → Leaves (after_wait old t) (core_of new noted)
  Leaves-waiting new t token is new_is =
      Leaves-from (after_wait old t) (core_of new noted)
      (ap (λ n. state_of n noted) new_is
      ∙ state_of-enter_condvar m noted t token (noted_holding (m.status t) (is_noted noted t) is))
      (IsFairConsistent-wait old t is right.consistent)
      (MatchesHolder-alike (with_status old t Leaving) (after_wait old t) noted (λ j. refl)
      (MatchesHolder-with_status old noted t Leaving (ap holds (sym is))
      (λ handed. let same : Holding ≡ Handed = sym is ∙ handed in absurd cc) (λ keeps. refl) right.noted))

  pub Leaves-returned : (new : LotState) (t : ℕ) → old.status t ≡ Handed
      → machine new ≡ lot_machine.with_status m t status.Running
      → Leaves (with_status old t Holding) (core_of new (holder.Thread t))
  Leaves-returned new t is new_is =
      Leaves-from (with_status old t Holding) (core_of new (holder.Thread t))
      (ap (λ n. state_of n (holder.Thread t)) new_is
      ∙ state_of-with_status m (holder.Thread t) t status.Running
      ∙ ap (λ n. with_status n t (fair_status status.Running (is_noted (holder.Thread t) t)))
      (state_of-noted m noted (holder.Thread t) t others)
      ∙ with_status-twice old t _ _
      ∙ ap (λ b. with_status old t (fair_status status.Running b)) (is_noted-own t))
      (IsFairConsistent-with_status old t Holding (ap holds (sym is)) (ap stands (sym is)) right.consistent)
      (ap keeps_hold (with_value-same old.status t Holding t refl))
    where
      unless : (j : ℕ) (b : Bool) → is_noted noted j ≡ b → j ≢ t → is_noted noted j ≡ false
      unless j true noted_is other =
          absurd (other (right.consistent.one_holder j t (holds-keeps_hold (old.status j)
          (is_noted-keeps old noted j right.noted noted_is)) (ap holds is)))
      unless j false noted_is other = noted_is

      others : (j : ℕ) → j ≢ t → is_noted (holder.Thread t) j ≡ is_noted noted j
      others j other = is_noted-thread t j other ∙ sym (unless j (is_noted noted j) refl other)

  -- a thread lets the mutex go, which the first waiter is handed
  module _ (new : LotState) (t : ℕ) (token : UnparkToken) (noted_is : noted ≡ holder.Thread t)
      (new_is : machine new ≡ after_unpark m MUTEX_KEY (split_first (m.lists MUTEX_KEY)) token) where
    keeps : IsTrue (keeps_hold (old.status t))
    keeps = is_noted-keeps old noted t right.noted (ap (λ h. is_noted h t) noted_is ∙ is_noted-own t)

    lets_go : fair_status (m.status t) false ≡ let_go (old.status t)
    lets_go =
        let own : is_noted noted t ≡ true = ap (λ h. is_noted h t) noted_is ∙ is_noted-own t in
        fair_status-let_go (m.status t) (subst (λ b. IsTrue (keeps_hold (fair_status (m.status t) b))) own keeps)
        ∙ ap (λ b. let_go (fair_status (m.status t) b)) (sym own)

    abbrev handing : FairState → FairState
    handing n = record n { waiters = drop 1 n.waiters; status = with_handed (take 1 n.waiters) n.status }

    state-released : (after : Holder) → ((j : ℕ) → is_noted after j ≡ false)
        → state_of (machine new) after ≡ after_release old t
    state-released after nobody =
        ap (λ n. state_of n after) new_is ∙ state_of-after_unpark m after token
        ∙ ap handing (state_of-noted m noted after t
        (λ j other. nobody j ∙ sym (ap (λ h. is_noted h j) noted_is ∙ is_noted-thread t j other))
        ∙ ap (λ b. with_status old t (fair_status (m.status t) b)) (nobody t)
        ∙ ap (with_status old t) lets_go)

    free : FairState
    free = with_status old t (let_go (old.status t))

    pub Leaves-handed : 0 < length (take 1 (m.lists MUTEX_KEY))
        → Leaves (after_release old t) (core_of new holder.Taken)
    Leaves-handed some =
        Leaves-from (after_release old t) (core_of new holder.Taken) (state-released holder.Taken (λ j. refl))
        (IsFairConsistent-release old t keeps right.consistent)
        (handed_first (take 1 old.waiters) (with_value old.status t (let_go (old.status t)))
        (subst (λ n. 0 < n) (sym (counted (m.lists MUTEX_KEY))) some))
      where
        counted : (waiters : List Waiter) → length (take 1 (map (λ waiter. waiter.number) waiters))
            ≡ length (take 1 waiters)
        counted [] = refl
        counted (waiter ∷ waiters) = refl

    pub Leaves-freed : length (take 1 (m.lists MUTEX_KEY)) ≡ 0
        → Leaves (after_release old t) (core_of new holder.Nobody)
    Leaves-freed none =
        Leaves-from (after_release old t) (core_of new holder.Nobody) (state-released holder.Nobody (λ j. refl))
        (IsFairConsistent-release old t keeps right.consistent)
        (λ j. ap holds (ap (λ (status : ℕ → FairStatus). status j)
        (handed_none (take 1 old.waiters) (with_value old.status t (let_go (old.status t)))
        (counted (m.lists MUTEX_KEY) ∙ none)))
        ∙ IsUnlocked-let_go old t keeps right.consistent j)
      where
        counted : (waiters : List Waiter) → length (take 1 (map (λ waiter. waiter.number) waiters))
            ≡ length (take 1 waiters)
        counted [] = refl
        counted (waiter ∷ waiters) = refl

  -- a notify
  module _ (new : LotState) (op : RequeueOp) (token : UnparkToken) (fits : FitsNotify old op)
      (new_is : machine new ≡ after_requeue m CONDVAR_KEY MUTEX_KEY (split_by op (m.lists CONDVAR_KEY)) token) where
    unlocked-taken : (op : RequeueOp) → FitsNotify old op → 0 < length (split_by op old.sleepers).taken
        → IsUnlocked old
    unlocked-taken Abort none some = absurd none
    unlocked-taken UnparkOneRequeueRest unlocked some = unlocked
    unlocked-taken RequeueAll locked some = absurd (omega arith)
    unlocked-taken UnparkOne unlocked some = unlocked
    unlocked-taken RequeueOne locked some = absurd (omega arith)

    pub Leaves-notified : 0 < length (split_by op old.sleepers).taken
        → Leaves (after_notify old op) (core_of new holder.Taken)
    Leaves-notified some =
        let unlocked = unlocked-taken op fits some in
        Leaves-from (after_notify old op) (core_of new holder.Taken)
        (ap (λ n. state_of n holder.Taken) new_is ∙ state_of-after_requeue m holder.Taken op token
        ∙ ap (λ n. after_notify n op) (state_of-alike m noted holder.Taken
        (λ j. sym (is_noted-unlocked old noted j right.noted unlocked))))
        (IsFairConsistent-notify old op fits right.consistent)
        (handed_first (split_by op old.sleepers).taken old.status some)

    pub Leaves-moved : length (split_by op old.sleepers).taken ≡ 0
        → Leaves (after_notify old op) (core_of new noted)
    Leaves-moved none =
        Leaves-from (after_notify old op) (core_of new noted)
        (ap (λ n. state_of n noted) new_is ∙ state_of-after_requeue m noted op token)
        (IsFairConsistent-notify old op fits right.consistent)
        (MatchesHolder-alike old (after_notify old op) noted
        (λ j. ap (λ (status : ℕ → FairStatus). status j)
        (handed_none (split_by op old.sleepers).taken old.status none)) right.noted)
