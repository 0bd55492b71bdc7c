use Rattle.std.proofs.Common.{◌∙◌, sym, refl}
use Rattle.lot_simulator.specs.declared.interleaved.FineAnswer.TheVariants as fine
use Rattle.lot_simulator.specs.declared.interleaved.FineStep.TheVariants.{Acquire}
use Rattle.lot_machine.specs.declared.step.Answer.TheVariants.{Misfit, Recorded}
use Rattle.lot_simulator.specs.FineLot.{fine_state}
use Rattle.lot_simulator.proofs.FineAnswerLemmas.{answer_for-misfit, None-refused}
use Rattle.lot_simulator.proofs.FineLotLemmas.{fine_lot_of}
use Rattle.lot_simulator.proofs.FineStateLemmas.{DoneStep, DoneStep-kept, set_lot, status_is, status-past, step_of}
use Rattle.lot_simulator.proofs.FineStateLemmas.{uses-recorded}
use Rattle.lot_simulator.proofs.FineThreadLemmas.{DoneStep-acquire, DoneStep-unrecorded, unfit-acquire}
use Rattle.lot_simulator.proofs.interleaved.FineLot.acquire.Goals as goal
use Rattle.lot_simulator.proofs.interleaved.FineLot.acquire.Goals.{In-Ok}

step : (c : In-Ok) → DoneStep (fine_lot_of c.self.inside)
    (set_lot (fine_lot_of c.self.inside) c.args.thread c.acquire.new.self c.self.inside.table.cells
    c.self.inside.callers.items) (Acquire c.args.thread c.args.key) (fine.Answer Recorded)
step c =
    DoneStep-acquire (fine_lot_of c.self.inside) c.self.invariant.0 c.args.thread c.in_ok-running.running.now
    c.acquire.new.self
    (rw c.in_ok-running.ensures.ok_part at c.get_mut.ensures.item).3.0 ((rw c.in_ok-running.ensures.ok_part at c.get_mut.ensures.item).3.1 _) c.args.key
    (c.in-Ok.ensures.fits.0 (λ refused. cc)) c.in-Ok.ensures.kept c.in-Ok.ensures.ok

pub invariant_of-self-2 : goal.invariant_of-self-2
invariant_of-self-2 c = (
  (step c).is_lot,
  c.self.invariant.1
      ∙ sym (uses-recorded (fine_lot_of c.self.inside) c.self.invariant.0 c.args.thread c.in_ok-running.running.now
      c.acquire.new.self
      (rw c.in_ok-running.ensures.ok_part at c.get_mut.ensures.item).3.0
      ((rw c.in_ok-running.ensures.ok_part at c.get_mut.ensures.item).3.1 _) _ c.acquire.ensures.kept refl),
)

pub returns : goal.returns
returns c = step_of c.self.view_is (step c)

pub returns-in-Err-NoMemory : goal.returns-in-Err-NoMemory
returns-in-Err-NoMemory c =
    let fits = rw c.in-Err-NoMemory.field-0-is at c.in-Err-NoMemory.ensures.fits in
    step_of c.self.view_is
    (DoneStep-unrecorded (fine_lot_of c.self.inside) c.self.invariant.0 c.args.thread c.in_ok-running.running.now
    c.acquire.new.self
    (rw c.in_ok-running.ensures.ok_part at c.get_mut.ensures.item).3.0 ((rw c.in_ok-running.ensures.ok_part at c.get_mut.ensures.item).3.1 _) c.args.key
    (fits.0 (λ refused. cc)) c.in-Err-NoMemory.ensures.err)

pub returns-in-Err-Misfit : goal.returns-in-Err-Misfit
returns-in-Err-Misfit c =
    let lot = fine_lot_of c.self.inside in
    let now = c.in_ok-running.running.now in
    let below = (rw c.in_ok-running.ensures.ok_part at c.get_mut.ensures.item).3.0 in
    let read = (rw c.in_ok-running.ensures.ok_part at c.get_mut.ensures.item).3.1 _ in
    let at = status_is lot c.self.invariant.0 c.args.thread now c.acquire.new.self below read in
    let fits = rw c.in-Err-Misfit.field-0-is at c.in-Err-Misfit.ensures.fits in
    step_of c.self.view_is
    (DoneStep-kept lot c.self.invariant.0 c.args.thread now c.acquire.new.self below read
    (Acquire c.args.thread c.args.key) (fine.Answer Misfit) c.in-Err-Misfit.ensures.err
    (unfit-acquire (fine_state lot) c.args.thread c.args.key (λ runs. fits.1 (sym at ∙ runs) refl)))

pub returns-in_err-running : goal.returns-in_err-running
returns-in_err-running c =
    let lot = fine_lot_of c.self.inside in
    let none = None-refused c.get_mut.result _ _ c.in_err-running.ensures.value in
    rw (← c.self.view_is, answer_for-misfit c.from_residual.result _ c.from_residual.ensures.1)
    (unfit-acquire (fine_state lot) c.args.thread c.args.key
    (λ runs. let free = status-past lot c.args.thread (rw none at c.get_mut.ensures.item).3 in cc))
