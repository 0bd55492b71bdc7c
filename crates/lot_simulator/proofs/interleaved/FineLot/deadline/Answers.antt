use Rattle.std.proofs.Common.{◌∙◌, sym, ap, refl, None}
use Rattle.lot_simulator.specs.declared.interleaved.FineAnswer.TheVariants as fine
use Rattle.lot_simulator.specs.declared.interleaved.FineStep.TheVariants.{Deadline}
use Rattle.lot_machine.specs.declared.status.Status.TheVariants.{Late}
use Rattle.lot_machine.specs.declared.step.Answer.TheVariants.{Misfit}
use Rattle.lot_simulator.specs.FineLot.{fine_state}
use Rattle.lot_simulator.specs.Lot.{use_of}
use Rattle.lot_simulator.proofs.FineAnswerLemmas.{step_of_misfit}
use Rattle.lot_simulator.proofs.FineLotLemmas.{fine_lot_of}
use Rattle.lot_simulator.proofs.FineStateLemmas.{DoneStep, DoneStep-kept, set_lot, step_of, slot_is}
use Rattle.lot_simulator.proofs.FineStateLemmas.{status_is, uses-changed}
use Rattle.lot_simulator.proofs.FineThreadLemmas.{DoneStep-deadline, IsDeadline-misfit}
use Rattle.lot_simulator.proofs.interleaved.FineLot.deadline.Goals as goal
use Rattle.lot_simulator.proofs.interleaved.FineLot.deadline.Goals.{In_ok-deadline}

step : (c : In_ok-deadline) → DoneStep (fine_lot_of c.self.inside)
    (set_lot (fine_lot_of c.self.inside) c.args.thread c.deadline.new.self c.self.inside.table.cells
    c.self.inside.callers.items) (Deadline c.args.thread) fine.Late
step c =
    let fits = c.in_ok-deadline.ensures.fits.0 refl in
    DoneStep-deadline (fine_lot_of c.self.inside) c.self.invariant.0 c.args.thread c.in_ok-ok_or.field-0.now
    c.deadline.new.self
    (rw c.in_ok-ok_or.ensures.ok_part at c.get_mut.ensures.item).3.0 ((rw c.in_ok-ok_or.ensures.ok_part at c.get_mut.ensures.item).3.1 _) fits.0 fits.1
    c.in_ok-deadline.ensures.ok

pub invariant_of-self-2 : goal.invariant_of-self-2
invariant_of-self-2 c = (
  (step c).is_lot,
  c.self.invariant.1
      ∙ sym (uses-changed (fine_lot_of c.self.inside) c.self.invariant.0 c.args.thread c.in_ok-ok_or.field-0.now
      c.deadline.new.self
      (rw c.in_ok-ok_or.ensures.ok_part at c.get_mut.ensures.item).3.0
      ((rw c.in_ok-ok_or.ensures.ok_part at c.get_mut.ensures.item).3.1 _) Late c.in_ok-ok_or.field-0.now.thread.key
      None c.in_ok-ok_or.field-0.now.slot c.in_ok-deadline.ensures.ok
      (ap use_of (sym (c.in_ok-deadline.ensures.fits.0 refl).0))),
)

pub returns : goal.returns
returns c = step_of c.self.view_is (step c)

pub returns-in_err-deadline : goal.returns-in_err-deadline
returns-in_err-deadline c =
    let lot = fine_lot_of c.self.inside in
    let now = c.in_ok-ok_or.field-0.now in
    let below = (rw c.in_ok-ok_or.ensures.ok_part at c.get_mut.ensures.item).3.0 in
    let read = (rw c.in_ok-ok_or.ensures.ok_part at c.get_mut.ensures.item).3.1 _ in
    step_of_misfit c.from_residual-in_err-deadline.result _ c.from_residual-in_err-deadline.ensures.1 c.self.view_is
    (DoneStep-kept lot c.self.invariant.0 c.args.thread now c.deadline.new.self below read (Deadline c.args.thread)
    (fine.Answer Misfit) c.in_err-deadline.ensures.err
    (IsDeadline-misfit (fine_state lot) c.args.thread
    (λ waits empty. let fitted = c.in_err-deadline.ensures.fits.1 (
      sym (status_is lot c.self.invariant.0 c.args.thread now c.deadline.new.self below read) ∙ waits,
      sym (slot_is lot c.self.invariant.0 c.args.thread now c.deadline.new.self below read) ∙ empty,
    ) in cc)))
