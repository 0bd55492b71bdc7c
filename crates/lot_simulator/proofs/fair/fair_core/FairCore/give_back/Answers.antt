use Rattle.std.proofs.Common.{rules, ◌≡◌, refl, ap, subst}
use Rattle.lot_simulator.specs.LotState.{LotState}
use Rattle.lot_simulator.specs.Lot.{machine}
use Rattle.lot_machine.specs.Machine.{with_status}
use Rattle.lot_machine.specs.declared.status.Status.TheVariants.{Running}
use Rattle.lot_simulator.specs.declared.fair.fair_core.FairStatus.TheVariants.{Handed}
use Rattle.lot_simulator.specs.declared.fair.fair_core.Holder.TheVariants.{Thread}
use Rattle.lot_simulator.specs.declared.fair.schedule.FairAnswer.TheVariants.{Locked}
use Rattle.lot_simulator.specs.declared.fair.schedule.FairStep.TheVariants.{Return}
use Rattle.lot_simulator.specs.FairCoreState.{FairCoreState}
use Rattle.lot_simulator.specs.FairCore.{fair_state, IsFairCore}
use Rattle.lot_simulator.specs.FairSteps.{IsFairStep, is_handed}
use Rattle.lot_simulator.proofs.FairStepLemmas.{Leaves-returned, IfFits-fits}
use Rattle.lot_simulator.proofs.fair.fair_core.FairCore.give_back.Goals as goal

-- what the step leaves is a core, and is one step on
returned : (core : FairCoreState) (lot : LotState) (thread : _) → IsFairCore core
    → (fair_state core).status thread ≡ Handed → machine lot ≡ with_status (machine core.lot) thread Running
    → IsFairCore (record { lot = lot; holder = Thread thread })
    × IsFairStep (fair_state core) (Return thread) Locked (fair_state (record { lot = lot; holder = Thread thread }))
returned core lot thread right handed new_is =
    let left = Leaves-returned core.lot core.holder right lot thread handed new_is in
    (left.kept, IfFits-fits _ _ _ _ _ (ap is_handed handed) (refl, left.state))

pub invariant_of-self : goal.invariant_of-self
invariant_of-self c =
    let right : IsFairCore c.args.self.now = subst IsFairCore c.self.view_is c.self.invariant in
    (returned c.args.self.now c.give_back.new.self c.args.thread right (search rules) (search rules)).0

pub returns : goal.returns
returns c =
    let right : IsFairCore c.args.self.now = subst IsFairCore c.self.view_is c.self.invariant in
    (returned c.args.self.now c.give_back.new.self c.args.thread right (search rules) (search rules)).1
