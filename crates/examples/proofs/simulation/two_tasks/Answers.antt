use Rattle.std.proofs.Common.{◌≡◌, ◌∙◌, ◌||◌, true, IsOk, refl, sym, ap}
use Rattle.std.proofs.lemmas.Bool.{cond-true, cond-false}
use Rattle.lot_base.specs.declared.token.ParkResult.TheVariants.{Unparked, TimedOut}
use Rattle.lot_base.specs.Waiting.{has_any}
use Rattle.lot_machine.specs.declared.status.Status.{Status}
use Rattle.lot_machine.specs.declared.status.Status.TheVariants.{Waiting, Taken}
use Rattle.lot_simulator.specs.LotState.{LotState}
use Rattle.lot_machine.specs.Machine.{Machine}
use Rattle.lot_machine.specs.Status.{is_timed, is_taken}
use Rattle.lot_simulator.specs.Lot.{machine}
use Rattle.examples.specs.declared.semaphore.TheConstants.{PERMIT}
use Rattle.examples.proofs.TaskLemmas.{is_handed}
use Rattle.examples.proofs.simulation.two_tasks.Goals as goal
use Rattle.examples.proofs.simulation.two_tasks.Goals.{then-in_time, else-in_time}

pub unwrap-requires : goal.unwrap-requires
unwrap-requires c =
    let second = c.in_ok-lot.second in
    let ends : (s : Status) → (is_timed s || is_taken s) ≡ true → (machine c.if-in_time.lot).status second ≡ s →
    IsOk c.let_time_out.result = λ s may is.
    c.let_time_out.ensures.fits.1 (ap (λ t. is_timed t || is_taken t) is ∙ may) in
    let (waits, alone) = c.in_ok-lot.ensures.waits in
    elim c.if-in_time.branch [
      | then-in_time w ↦
          let handed = (w.release.ensures.handed (w.release.ensures.answer ∙ ap has_any alone)).1 in
          ends (Taken PERMIT) refl
          (ap (λ (lot : LotState). (machine lot).status second) w.lot-is
          ∙ ap (λ (m : Machine). m.status second) handed
          ∙ is_handed (machine c.in_ok-lot.lot) second c.in_ok-lot.semaphore.key _ _ PERMIT alone refl)
      | else-in_time w ↦ ends (Waiting true) refl (ap (λ (lot : LotState). (machine lot).status second) w.lot-is
          ∙ waits)
    ]

pub returns-clause-outcome : goal.returns-clause-outcome
returns-clause-outcome c =
    let second = c.in_ok-lot.second in
    let (waits, alone) = c.in_ok-lot.ensures.waits in
    elim c.if-in_time.branch [
      | then-in_time w ↦
          let handed = (w.release.ensures.handed (w.release.ensures.answer ∙ ap has_any alone)).1 in
          let answered = (c.let_time_out.ensures.taken PERMIT
          (ap (λ (lot : LotState). (machine lot).status second) w.lot-is
          ∙ ap (λ (m : Machine). m.status second) handed
          ∙ is_handed (machine c.in_ok-lot.lot) second c.in_ok-lot.semaphore.key _ _ PERMIT alone refl)).0 in
          let told : c.unwrap.result ≡ Unparked PERMIT = cc (answered, c.unwrap.ensures) in
          told ∙ sym (cond-true c.args.in_time (Unparked PERMIT) TimedOut w.if-in_time.true)
      | else-in_time w ↦
          let answered = (c.let_time_out.ensures.timed_out
          (ap is_timed (ap (λ (lot : LotState). (machine lot).status second) w.lot-is ∙ waits))).0 in
          let told : c.unwrap.result ≡ TimedOut = cc (answered, c.unwrap.ensures) in
          told ∙ sym (cond-false c.args.in_time (Unparked PERMIT) TimedOut w.if-in_time.false)
    ]
