use Rattle.std.proofs.Common.{rules, ◌≡◌, ℕ, ap, subst, sym}
use Rattle.lot_simulator.specs.LotState.{LotState}
use Rattle.lot_simulator.specs.Lot.{machine}
use Rattle.lot_machine.specs.Machine as lot_machine
use Rattle.lot_machine.specs.declared.status.Status.TheVariants.{Running}
use Rattle.lot_simulator.specs.declared.fair.fair_core.Holder.{Holder}
use Rattle.lot_simulator.specs.declared.fair.schedule.FairAnswer.TheVariants.{Registered, Full, NoMemory}
use Rattle.lot_simulator.specs.FairCoreState.{FairCoreState}
use Rattle.lot_simulator.specs.FairCore.{fair_state, IsFairCore}
use Rattle.lot_simulator.specs.FairSteps.{IsRegister}
use Rattle.lot_simulator.proofs.FairStepLemmas.{Leaves-registered, IsLeastFree-lot, IsFull-lot, IsFull-of_lot}
use Rattle.lot_simulator.proofs.fair.fair_core.FairCore.register.Goals as goal
use Rattle.lot_simulator.proofs.fair.fair_core.FairCore.register.Goals.{in-Ok, in-Err-Full, in-Err}

-- what the step leaves is a core, and is one step on
module _ (lot new : LotState) (noted : Holder) (core : FairCoreState)
    (same : record { lot = lot; holder = noted } ≡ core) (right : IsFairCore (record { lot = lot; holder = noted }))
  where
    registered : (number : ℕ) → lot_machine.IsLeastFree (machine lot) number
        → machine new ≡ lot_machine.with_status (machine lot) number Running
        → IsFairCore (record { lot = new; holder = noted })
        × IsRegister (fair_state core) (Registered number) (fair_state (record { lot = new; holder = noted }))
    registered number least new_is =
        subst (λ (c : FairCoreState). IsFairCore (record { lot = new; holder = noted })
        × IsRegister (fair_state c) (Registered number) (fair_state (record { lot = new; holder = noted }))) same
        (let left = Leaves-registered lot noted right new number least new_is in
        (left.kept, (IsLeastFree-lot lot noted right number least, left.state)))

    full : lot_machine.IsFull (machine lot) → new ≡ lot
        → IsFairCore (record { lot = new; holder = noted })
        × IsRegister (fair_state core) Full (fair_state (record { lot = new; holder = noted }))
    full all unchanged =
        subst (λ (c : FairCoreState). IsFairCore (record { lot = new; holder = noted })
        × IsRegister (fair_state c) Full (fair_state (record { lot = new; holder = noted }))) same (
          subst (λ (l : LotState). IsFairCore (record { lot = l; holder = noted })) (sym unchanged) right,
          (IsFull-lot lot noted right all, ap (λ (l : LotState). fair_state (record { lot = l; holder = noted })) unchanged),
        )

    no_memory : (lot_machine.IsFull (machine lot) → ⊥) → new ≡ lot
        → IsFairCore (record { lot = new; holder = noted })
        × IsRegister (fair_state core) NoMemory (fair_state (record { lot = new; holder = noted }))
    no_memory some unchanged =
        subst (λ (c : FairCoreState). IsFairCore (record { lot = new; holder = noted })
        × IsRegister (fair_state c) NoMemory (fair_state (record { lot = new; holder = noted }))) same (
          subst (λ (l : LotState). IsFairCore (record { lot = l; holder = noted })) (sym unchanged) right,
          (
            (λ all. some (IsFull-of_lot lot noted right all)),
            ap (λ (l : LotState). fair_state (record { lot = l; holder = noted })) unchanged,
          ),
        )

pub invariant_of-self : goal.invariant_of-self
invariant_of-self c =
    elim c.match-register.branch [
      | in-Ok w ↦ (registered c.self.inside.lot c.register.new.self c.self.inside.holder c.args.self.now c.self.view_is
          c.self.invariant w.in-Ok.number (search rules) (search rules)).0
      | in-Err-Full w ↦ (full c.self.inside.lot c.register.new.self c.self.inside.holder c.args.self.now c.self.view_is
          c.self.invariant (search rules) (search rules)).0
      | in-Err w ↦ (no_memory c.self.inside.lot c.register.new.self c.self.inside.holder c.args.self.now c.self.view_is
          c.self.invariant (search rules) (search rules)).0
    ]

pub returns : goal.returns
returns c =
    elim c.match-register.branch [
      | in-Ok w ↦ rw w.result-is
          (registered c.self.inside.lot c.register.new.self c.self.inside.holder c.args.self.now c.self.view_is
          c.self.invariant w.in-Ok.number (search rules) (search rules)).1
      | in-Err-Full w ↦ rw w.result-is
          (full c.self.inside.lot c.register.new.self c.self.inside.holder c.args.self.now c.self.view_is
          c.self.invariant (search rules) (search rules)).1
      | in-Err w ↦ rw w.result-is
          (no_memory c.self.inside.lot c.register.new.self c.self.inside.holder c.args.self.now c.self.view_is
          c.self.invariant (search rules) (search rules)).1
    ]
