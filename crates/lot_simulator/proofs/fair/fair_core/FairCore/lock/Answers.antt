use Rattle.std.proofs.Common.{rules, ◌≡◌, ℕ, ap, subst, false}
use Rattle.lot_base.specs.declared.token.TheConstants.{DEFAULT_PARK_TOKEN}
use Rattle.lot_simulator.specs.LotState.{LotState}
use Rattle.lot_simulator.specs.Lot.{machine}
use Rattle.lot_machine.specs.Machine.{after_enter}
use Rattle.lot_simulator.specs.declared.fair.fair_core.FairStatus.TheVariants.{Idle}
use Rattle.lot_simulator.specs.declared.fair.fair_core.Holder.{Holder}
use Rattle.lot_simulator.specs.declared.fair.fair_core.Holder.TheVariants.{Thread}
use Rattle.lot_simulator.specs.declared.fair.fair_core.TheConstants.{MUTEX_KEY}
use Rattle.lot_simulator.specs.declared.fair.schedule.FairAnswer.TheVariants.{Locked, Queued}
use Rattle.lot_simulator.specs.declared.fair.schedule.FairStep.TheVariants.{Lock}
use Rattle.lot_simulator.specs.FairCoreState.{FairCoreState}
use Rattle.lot_simulator.specs.FairCore.{fair_state, IsFairCore}
use Rattle.lot_simulator.specs.FairMachine.{IsLocked, IsUnlocked}
use Rattle.lot_simulator.specs.FairSteps.{IsFairStep, is_idle}
use Rattle.lot_simulator.proofs.FairStepLemmas.{Leaves-locked, Leaves-queued, IfFits-fits}
use Rattle.lot_simulator.proofs.fair.fair_core.FairCore.lock.Goals as goal

-- what the step leaves is a core, and is one step on
module _ (lot : LotState) (noted : Holder) (core : FairCoreState) (same : record { lot = lot; holder = noted } ≡ core)
    (right : IsFairCore (record { lot = lot; holder = noted })) (thread : ℕ) where
  locked : (fair_state core).status thread ≡ Idle → IsUnlocked (fair_state core)
      → IsFairCore (record { lot = lot; holder = Thread thread })
      × IsFairStep (fair_state core) (Lock thread) Locked (fair_state (record { lot = lot; holder = Thread thread }))
  locked =
      subst (λ (c : FairCoreState). (fair_state c).status thread ≡ Idle → IsUnlocked (fair_state c)
      → IsFairCore (record { lot = lot; holder = Thread thread })
      × IsFairStep (fair_state c) (Lock thread) Locked (fair_state (record { lot = lot; holder = Thread thread })))
      same (λ idle unlocked. let left = Leaves-locked lot noted right thread unlocked idle in
      (left.kept, IfFits-fits _ _ _ _ _ (ap is_idle idle) (unlocked, left.state)))

  queued : (new : LotState) → (fair_state core).status thread ≡ Idle → IsLocked (fair_state core)
      → machine new ≡ after_enter (machine lot) thread MUTEX_KEY DEFAULT_PARK_TOKEN false
      → IsFairCore (record { lot = new; holder = noted })
      × IsFairStep (fair_state core) (Lock thread) Queued (fair_state (record { lot = new; holder = noted }))
  queued new idle is_locked new_is =
      subst (λ (c : FairCoreState). (fair_state c).status thread ≡ Idle → IsLocked (fair_state c)
      → IsFairCore (record { lot = new; holder = noted })
      × IsFairStep (fair_state c) (Lock thread) Queued (fair_state (record { lot = new; holder = noted })))
      same (λ is_idle_now locked_now. let left =
      Leaves-queued lot noted right new thread DEFAULT_PARK_TOKEN locked_now is_idle_now new_is in
      (left.kept, IfFits-fits _ _ _ _ _ (ap is_idle is_idle_now) (locked_now, left.state))) idle is_locked

pub invariant_of-self : goal.invariant_of-self
invariant_of-self c =
    (locked c.self.inside.lot c.self.inside.holder c.args.self.now c.self.view_is c.self.invariant c.args.thread
    (search rules) (search rules)).0

pub returns-then-not-is_locked : goal.returns-then-not-is_locked
returns-then-not-is_locked c =
    (locked c.self.inside.lot c.self.inside.holder c.args.self.now c.self.view_is c.self.invariant c.args.thread
    (search rules) (search rules)).1

pub invariant_of-self-2 : goal.invariant_of-self-2
invariant_of-self-2 c =
    (queued c.self.inside.lot c.self.inside.holder c.args.self.now c.self.view_is c.self.invariant c.args.thread
    c.enter.new.self (search rules) (search rules) (search rules)).0

pub returns : goal.returns
returns c =
    (queued c.self.inside.lot c.self.inside.holder c.args.self.now c.self.view_is c.self.invariant c.args.thread
    c.enter.new.self (search rules) (search rules) (search rules)).1
