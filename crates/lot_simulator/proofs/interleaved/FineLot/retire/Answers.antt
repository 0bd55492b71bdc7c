use Rattle.std.proofs.Common.{◌∙◌, sym, ap, refl, slice_set}
use Rattle.lot_simulator.specs.declared.interleaved.FineAnswer.TheVariants as fine
use Rattle.lot_simulator.specs.declared.interleaved.FineStep.TheVariants.{Retire}
use Rattle.lot_machine.specs.declared.step.Answer.TheVariants.{Misfit, Retired}
use Rattle.lot_machine.specs.declared.numbers.Use.TheVariants as use_is
use Rattle.lot_simulator.specs.FineLot.{fine_state, plain_threads}
use Rattle.lot_simulator.specs.FineLotState.{FineThreadState}
use Rattle.lot_simulator.specs.Lot.{use_of, uses}
use Rattle.lot_simulator.proofs.CommitLemmas.{uses-set}
use Rattle.lot_simulator.proofs.FineAnswerLemmas.{step_of_misfit, answer_for-misfit, None-refused}
use Rattle.lot_simulator.proofs.FineLotLemmas.{fine_lot_of}
use Rattle.lot_simulator.proofs.FineStateLemmas.{DoneStep, DoneStep-kept, plain-set, set_lot, status_is}
use Rattle.lot_simulator.proofs.FineStateLemmas.{status-past}
use Rattle.lot_simulator.proofs.FineThreadLemmas.{DoneStep-retire, unfit-retire}
use Rattle.lot_simulator.proofs.interleaved.FineLot.retire.Goals as goal
use Rattle.lot_simulator.proofs.interleaved.FineLot.retire.Goals.{After-release}

step : (c : After-release) → DoneStep (fine_lot_of c.self.inside)
    (set_lot (fine_lot_of c.self.inside) c.args.thread c.retire.new.self c.self.inside.table.cells
    c.self.inside.callers.items) (Retire c.args.thread) (fine.Answer Retired)
step c =
    DoneStep-retire (fine_lot_of c.self.inside) c.self.invariant.0 c.args.thread c.in_ok-ok_or.field-0.now
    c.retire.new.self (rw c.in_ok-ok_or.ensures.ok_part at c.get_mut.ensures.item).3.0 ((rw c.in_ok-ok_or.ensures.ok_part at c.get_mut.ensures.item).3.1 _)
    (c.in_ok-retire.ensures.fits.0 refl) c.in_ok-retire.ensures.ok

pub invariant_of-self-2 : goal.invariant_of-self-2
invariant_of-self-2 c =
    rw c.release.ensures.cells (
      (step c).is_lot,
      c.release.ensures.numbers ∙ ap (λ numbers. slice_set numbers c.args.thread use_is.Free) c.self.invariant.1
          ∙ sym (ap uses (plain-set c.self.inside.threads.items c.args.thread c.retire.new.self)
          ∙ uses-set (plain_threads c.self.inside.threads.items) c.args.thread c.retire.new.self.thread
          ∙ ap (λ (t : FineThreadState). slice_set (uses (plain_threads c.self.inside.threads.items)) c.args.thread
          (use_of t.thread.status)) c.in_ok-retire.ensures.ok),
    )

pub returns : goal.returns
returns c = rw (← c.self.view_is, c.release.ensures.cells) (step c).does

pub returns-in_err-retire : goal.returns-in_err-retire
returns-in_err-retire c =
    let lot = fine_lot_of c.self.inside in
    let now = c.in_ok-ok_or.field-0.now in
    let below = (rw c.in_ok-ok_or.ensures.ok_part at c.get_mut.ensures.item).3.0 in
    let read = (rw c.in_ok-ok_or.ensures.ok_part at c.get_mut.ensures.item).3.1 _ in
    let at = status_is lot c.self.invariant.0 c.args.thread now c.retire.new.self below read in
    step_of_misfit c.from_residual-in_err-retire.result _ c.from_residual-in_err-retire.ensures.1 c.self.view_is
    (DoneStep-kept lot c.self.invariant.0 c.args.thread now c.retire.new.self below read (Retire c.args.thread)
    (fine.Answer Misfit) c.in_err-retire.ensures.err
    (unfit-retire (fine_state lot) c.args.thread
    (λ runs. let fitted = c.in_err-retire.ensures.fits.1 (sym at ∙ runs) in cc)))

pub returns-in_err-ok_or : goal.returns-in_err-ok_or
returns-in_err-ok_or c =
    let lot = fine_lot_of c.self.inside in
    let none = None-refused c.get_mut.result _ _ c.in_err-ok_or.ensures.value in
    rw (← c.self.view_is, answer_for-misfit c.from_residual.result _ c.from_residual.ensures.1)
    (unfit-retire (fine_state lot) c.args.thread
    (λ runs. let free = status-past lot c.args.thread (rw none at c.get_mut.ensures.item).3 in cc))
