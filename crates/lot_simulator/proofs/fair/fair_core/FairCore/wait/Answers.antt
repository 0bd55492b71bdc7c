use Rattle.std.proofs.Common.{rules, ◌≡◌, ◌∙◌, refl, sym, ap, subst}
use Rattle.lot_base.specs.declared.token.TheConstants.{DEFAULT_PARK_TOKEN}
use Rattle.lot_simulator.specs.declared.fair.fair_core.FairStatus.TheVariants.{Holding}
use Rattle.lot_simulator.specs.declared.fair.schedule.FairAnswer.TheVariants.{Waiting}
use Rattle.lot_simulator.specs.declared.fair.schedule.FairStep.TheVariants.{Wait}
use Rattle.lot_simulator.specs.FairCoreState.{FairCoreState}
use Rattle.lot_simulator.specs.FairCore.{fair_state}
use Rattle.lot_simulator.specs.FairMachine.{after_wait}
use Rattle.lot_simulator.specs.FairSteps.{IsFairStep, is_holding}
use Rattle.lot_simulator.proofs.FairStepLemmas.{Leaves, Leaves-waiting, IfFits-fits}
use Rattle.lot_simulator.proofs.fair.fair_core.FairCore.wait.Goals as goal
use Rattle.lot_simulator.proofs.fair.fair_core.FairCore.wait.Goals.{After-unwrap}

abbrev old : After-unwrap → FairCoreState
old c = record { lot = c.self.inside.lot; holder = c.self.inside.holder }

abbrev new : After-unwrap → FairCoreState
new c = record { lot = c.enter.new.self; holder = c.self.inside.holder }

holding : (c : After-unwrap) → (fair_state (old c)).status c.args.thread ≡ Holding
holding c =
    let told : c.status.result ≡ Holding = search rules in
    subst (λ (core : FairCoreState). (fair_state core).status c.args.thread ≡ Holding) (sym c.self.view_is)
    (sym c.status.ensures ∙ told)

left : (c : After-unwrap) → Leaves (after_wait (fair_state (old c)) c.args.thread) (new c)
left c = Leaves-waiting c.self.inside.lot c.self.inside.holder c.self.invariant c.enter.new.self c.args.thread
    DEFAULT_PARK_TOKEN (holding c) (search rules)

pub invariant_of-self : goal.invariant_of-self
invariant_of-self c = (left c).kept

pub returns : goal.returns
returns c =
    subst (λ (core : FairCoreState). IsFairStep (fair_state core) (Wait c.args.thread) Waiting (fair_state (new c)))
    c.self.view_is (IfFits-fits _ _ _ _ _ (ap is_holding (holding c)) (refl, (left c).state))
