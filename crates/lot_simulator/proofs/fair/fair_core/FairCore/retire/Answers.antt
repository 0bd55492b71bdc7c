use Rattle.std.proofs.Common.{rules, ◌≡◌, ◌∙◌, refl, sym, ap, subst}
use Rattle.lot_simulator.specs.declared.fair.fair_core.FairStatus.TheVariants.{Idle, Free}
use Rattle.lot_simulator.specs.declared.fair.schedule.FairAnswer.TheVariants.{Retired}
use Rattle.lot_simulator.specs.declared.fair.schedule.FairStep.TheVariants.{Retire}
use Rattle.lot_simulator.specs.FairCoreState.{FairCoreState}
use Rattle.lot_simulator.specs.FairCore.{fair_state}
use Rattle.lot_simulator.specs.FairMachine.{with_status}
use Rattle.lot_simulator.specs.FairSteps.{IsFairStep, is_idle}
use Rattle.lot_simulator.proofs.FairStepLemmas.{Leaves, Leaves-retired, IfFits-fits}
use Rattle.lot_simulator.proofs.fair.fair_core.FairCore.retire.Goals as goal
use Rattle.lot_simulator.proofs.fair.fair_core.FairCore.retire.Goals.{After-unwrap}

abbrev old : After-unwrap → FairCoreState
old c = record { lot = c.self.inside.lot; holder = c.self.inside.holder }

abbrev new : After-unwrap → FairCoreState
new c = record { lot = c.retire.new.self; holder = c.self.inside.holder }

idle : (c : After-unwrap) → (fair_state (old c)).status c.args.thread ≡ Idle
idle c =
    let told : c.status.result ≡ Idle = search rules in
    subst (λ (core : FairCoreState). (fair_state core).status c.args.thread ≡ Idle) (sym c.self.view_is)
    (sym c.status.ensures ∙ told)

left : (c : After-unwrap) → Leaves (with_status (fair_state (old c)) c.args.thread Free) (new c)
left c = Leaves-retired c.self.inside.lot c.self.inside.holder c.self.invariant c.retire.new.self c.args.thread (idle c)
    (search rules)

pub invariant_of-self : goal.invariant_of-self
invariant_of-self c = (left c).kept

pub returns : goal.returns
returns c =
    subst (λ (core : FairCoreState). IsFairStep (fair_state core) (Retire c.args.thread) Retired (fair_state (new c)))
    c.self.view_is (IfFits-fits _ _ _ _ _ (ap is_idle (idle c)) (refl, (left c).state))
