use Rattle.std.proofs.Common.{◌≡◌, ◌∙◌, ap, rules}
use Rattle.lot_machine.specs.declared.status.Status.TheVariants.{Running}
use Rattle.lot_simulator.specs.Lot.{machine}
use Rattle.lot_machine.specs.Machine.{Machine, after_release}
use Rattle.lot_machine.proofs.LawLemmas.{after_release-after_acquire}
use Rattle.lot_simulator.proofs.laws.acquire_and_release.Goals as goal
use Rattle.lot_simulator.proofs.laws.acquire_and_release.Goals.{After-release}

-- the thread still runs
runs : (c : After-release) → (machine c.acquire.new.self).status c.args.number ≡ Running
runs c =
    ap (λ (m : Machine). m.status c.args.number) c.in_ok-acquire.ensures.ok
    ∙ c.in_ok-acquire.ensures.fits.0 (λ refused. cc)

pub unwrap-requires : goal.unwrap-requires
unwrap-requires c = c.release.ensures.fits.1 (runs c)

pub returns-clause-unchanged : goal.returns-clause-unchanged
returns-clause-unchanged c =
    let released : machine c.release.new.self ≡ after_release (machine c.acquire.new.self) c.args.number c.args.key =
    search rules in
    released ∙ ap (λ (m : Machine). after_release m c.args.number c.args.key) c.in_ok-acquire.ensures.ok
    ∙ after_release-after_acquire (machine c.args.lot.now) c.args.number c.args.key
