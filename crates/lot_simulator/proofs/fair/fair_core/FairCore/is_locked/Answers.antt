use Rattle.std.proofs.Common.{rules, ◌≢◌, subst}
use Rattle.lot_simulator.specs.FairCore.{fair_state, MatchesHolder}
use Rattle.lot_simulator.specs.FairCoreState.{FairCoreState}
use Rattle.lot_simulator.specs.declared.fair.fair_core.Holder.TheVariants.{Nobody}
use Rattle.lot_simulator.proofs.FairCoreLemmas.{IsLocked-unless, Locked-somebody}
use Rattle.lot_simulator.proofs.fair.fair_core.FairCore.is_locked.Goals as goal

pub returns-clause-locked : goal.returns-clause-locked
returns-clause-locked c =
    let noted : MatchesHolder (fair_state c.args.self.now) c.args.self.now.holder =
    subst (λ (core : FairCoreState). MatchesHolder (fair_state core) core.holder) c.self.view_is c.self.invariant.noted in (
      (λ told. let some : c.args.self.now.holder ≢ Nobody = search rules in
          IsLocked-unless (fair_state c.args.self.now) c.args.self.now.holder noted some),
      (λ locked. let some = Locked-somebody (fair_state c.args.self.now) c.args.self.now.holder noted locked in
          search rules),
    )
