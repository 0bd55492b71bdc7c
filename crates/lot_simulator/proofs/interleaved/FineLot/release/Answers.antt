use Rattle.std.proofs.Common.{◌∙◌, sym, refl}
use Rattle.lot_simulator.specs.declared.interleaved.FineAnswer.TheVariants as fine
use Rattle.lot_simulator.specs.declared.interleaved.FineStep.TheVariants.{Release}
use Rattle.lot_machine.specs.declared.step.Answer.TheVariants.{Misfit, Released}
use Rattle.lot_simulator.specs.FineLot.{fine_state}
use Rattle.lot_simulator.proofs.FineAnswerLemmas.{step_of_misfit, answer_for-misfit, None-refused}
use Rattle.lot_simulator.proofs.FineLotLemmas.{fine_lot_of}
use Rattle.lot_simulator.proofs.FineStateLemmas.{DoneStep, DoneStep-kept, set_lot, step_of, status_is}
use Rattle.lot_simulator.proofs.FineStateLemmas.{status-past, uses-recorded}
use Rattle.lot_simulator.proofs.FineThreadLemmas.{DoneStep-release, unfit-release}
use Rattle.lot_simulator.proofs.interleaved.FineLot.release.Goals as goal
use Rattle.lot_simulator.proofs.interleaved.FineLot.release.Goals.{In_ok-release}

step : (c : In_ok-release) → DoneStep (fine_lot_of c.self.inside)
    (set_lot (fine_lot_of c.self.inside) c.args.thread c.release.new.self c.self.inside.table.cells
    c.self.inside.callers.items) (Release c.args.thread c.args.key) (fine.Answer Released)
step c =
    DoneStep-release (fine_lot_of c.self.inside) c.self.invariant.0 c.args.thread c.in_ok-ok_or.field-0.now
    c.release.new.self
    (rw c.in_ok-ok_or.ensures.ok_part at c.get_mut.ensures.item).3.0 ((rw c.in_ok-ok_or.ensures.ok_part at c.get_mut.ensures.item).3.1 _) c.args.key
    (c.in_ok-release.ensures.fits.0 refl) c.in_ok-release.ensures.kept c.in_ok-release.ensures.ok

pub invariant_of-self-2 : goal.invariant_of-self-2
invariant_of-self-2 c = (
  (step c).is_lot,
  c.self.invariant.1
      ∙ sym (uses-recorded (fine_lot_of c.self.inside) c.self.invariant.0 c.args.thread c.in_ok-ok_or.field-0.now
      c.release.new.self (rw c.in_ok-ok_or.ensures.ok_part at c.get_mut.ensures.item).3.0 ((rw c.in_ok-ok_or.ensures.ok_part at c.get_mut.ensures.item).3.1 _) _
      c.in_ok-release.ensures.kept c.in_ok-release.ensures.ok),
)

pub returns : goal.returns
returns c = step_of c.self.view_is (step c)

pub returns-in_err-release : goal.returns-in_err-release
returns-in_err-release c =
    let lot = fine_lot_of c.self.inside in
    let now = c.in_ok-ok_or.field-0.now in
    let below = (rw c.in_ok-ok_or.ensures.ok_part at c.get_mut.ensures.item).3.0 in
    let read = (rw c.in_ok-ok_or.ensures.ok_part at c.get_mut.ensures.item).3.1 _ in
    let at = status_is lot c.self.invariant.0 c.args.thread now c.release.new.self below read in
    step_of_misfit c.from_residual-in_err-release.result _ c.from_residual-in_err-release.ensures.1 c.self.view_is
    (DoneStep-kept lot c.self.invariant.0 c.args.thread now c.release.new.self below read
    (Release c.args.thread c.args.key) (fine.Answer Misfit) c.in_err-release.ensures.err
    (unfit-release (fine_state lot) c.args.thread c.args.key
    (λ runs. let fitted = c.in_err-release.ensures.fits.1 (sym at ∙ runs) in cc)))

pub returns-in_err-ok_or : goal.returns-in_err-ok_or
returns-in_err-ok_or c =
    let lot = fine_lot_of c.self.inside in
    let none = None-refused c.get_mut.result _ _ c.in_err-ok_or.ensures.value in
    rw (← c.self.view_is, answer_for-misfit c.from_residual.result _ c.from_residual.ensures.1)
    (unfit-release (fine_state lot) c.args.thread c.args.key
    (λ runs. let free = status-past lot c.args.thread (rw none at c.get_mut.ensures.item).3 in cc))
