use Rattle.std.proofs.Common.{◌≡◌, ◌∙◌, ◌<◌, ◌-◌, [], Err, is_ok, arith, ap}
use Rattle.lot_base.specs.declared.token.TheConstants.{DEFAULT_PARK_TOKEN}
use Rattle.lot_simulator.specs.LotState.{LotState}
use Rattle.lot_machine.specs.Machine.{Machine}
use Rattle.lot_simulator.specs.Lot.{machine}
use Rattle.examples.specs.SemaphoreState.{SemaphoreState}
use Rattle.examples.proofs.TaskLemmas.{NoMemory-only, not_full, not_full-one, runs, still_runs, Now-free, Parked-none}
use Rattle.examples.proofs.TaskLemmas.{waits, waits_alone}
use Rattle.examples.proofs.simulation.second_waits.Goals as goal

pub returns-in_err-first-clause-memory : goal.returns-in_err-first-clause-memory
returns-in_err-first-clause-memory c =
    NoMemory-only c.from_residual-in_err-first.result c.in_err-first.field-0.0 c.from_residual-in_err-first.ensures.1
    (λ many. c.in_err-first.ensures.not_too_many (ap Err many))
    (λ full. not_full (machine c.in_ok-lot.lot) c.in_ok-lot.ensures.ok (c.in_err-first.ensures.full.0 (ap Err full)))

pub returns-in_err-second-clause-memory : goal.returns-in_err-second-clause-memory
returns-in_err-second-clause-memory c =
    NoMemory-only c.from_residual-in_err-second.result c.in_err-second.field-0.0 c.from_residual-in_err-second.ensures.1
    (λ many. c.in_err-second.ensures.not_too_many (ap Err many))
    (λ full.
    not_full-one (machine c.in_ok-lot.lot) (machine c.register.new.self) c.in_ok-first.first
    c.in_ok-lot.ensures.ok c.in_ok-first.ensures.ok.1 c.in_ok-first.ensures.ok.0
    (c.in_err-second.ensures.full.0 (ap Err full)))

pub unwrap-requires : goal.unwrap-requires
unwrap-requires c =
    let new = machine c.in_ok-lot.lot in
    let one = machine c.register.new.self in
    c.acquire.ensures.fits.1
    (still_runs one (machine c.register-2.new.self) c.in_ok-first.first c.in_ok-second.second
    c.in_ok-second.ensures.ok.1 (runs new one c.in_ok-first.first c.in_ok-first.ensures.ok.1))

pub unwrap-requires-2 : goal.unwrap-requires-2
unwrap-requires-2 c =
    let one = ap (λ (s : SemaphoreState). s.permits) c.new-semaphore.ensures in
    let free : 0 < c.new-semaphore.result.permits = omega arith in
    let took = c.acquire.ensures.now
    (Now-free _ c.acquire.result (ap is_ok c.unwrap.ensures) c.acquire.ensures.free free) in
    c.acquire-2.ensures.fits.1 (ap (λ (lot : LotState). (machine lot).status c.in_ok-second.second) took.1
    ∙ runs (machine c.register.new.self)
    (machine c.register-2.new.self) c.in_ok-second.second c.in_ok-second.ensures.ok.1)

pub returns-clause-waits : goal.returns-clause-waits
returns-clause-waits c =
    let one = ap (λ (s : SemaphoreState). s.permits) c.new-semaphore.ensures in
    let free : 0 < c.new-semaphore.result.permits = omega arith in
    let took = c.acquire.ensures.now
    (Now-free _ c.acquire.result (ap is_ok c.unwrap.ensures) c.acquire.ensures.free free) in
    let none : c.acquire.new.self.permits ≡ 0 = ap (λ (s : SemaphoreState). s.permits) took.0
    ∙ ap (λ (s : SemaphoreState). s.permits - 1) c.new-semaphore.ensures in
    let parked = c.acquire-2.ensures.parked
    (Parked-none _ c.acquire-2.result (ap is_ok c.unwrap-2.ensures) c.acquire-2.ensures.free none) in
    let key = c.acquire.new.self.key in
    let nobody : (machine c.acquire.new.lot).lists key ≡ [] =
    ap (λ (lot : LotState). (machine lot).lists key) took.1
    ∙ ap (λ (m : Machine). m.lists key) c.in_ok-second.ensures.ok.1
    ∙ ap (λ (m : Machine). m.lists key) c.in_ok-first.ensures.ok.1
    ∙ ap (λ (m : Machine). m.lists key) c.in_ok-lot.ensures.ok in (
      ap (λ (m : Machine). m.status c.in_ok-second.second) parked.1
          ∙ waits (machine c.acquire.new.lot) c.in_ok-second.second key DEFAULT_PARK_TOKEN,
      ap (λ (s : SemaphoreState). (machine c.acquire-2.new.lot).lists s.key) parked.0
          ∙ ap (λ (m : Machine). m.lists key) parked.1
          ∙ waits_alone (machine c.acquire.new.lot) c.in_ok-second.second key DEFAULT_PARK_TOKEN nobody,
    )
