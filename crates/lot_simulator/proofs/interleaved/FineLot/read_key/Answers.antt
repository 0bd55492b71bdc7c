use Rattle.std.proofs.Common.{◌∙◌, sym, refl, Some}
use Rattle.lot_simulator.specs.declared.interleaved.FineAnswer.TheVariants as fine
use Rattle.lot_simulator.specs.declared.interleaved.FineStep.TheVariants.{ReadKey}
use Rattle.lot_machine.specs.declared.step.Answer.TheVariants.{Misfit}
use Rattle.lot_simulator.specs.FineLot.{fine_state}
use Rattle.lot_simulator.proofs.FineAnswerLemmas.{step_of_misfit}
use Rattle.lot_simulator.proofs.FineLotLemmas.{fine_lot_of}
use Rattle.lot_simulator.proofs.FineStateLemmas.{DoneStep, DoneStep-kept, set_lot, step_of, status_is, uses-changed}
use Rattle.lot_simulator.proofs.FineThreadLemmas.{DoneStep-read_key, IsReadKey-misfit}
use Rattle.lot_simulator.proofs.interleaved.FineLot.read_key.Goals as goal
use Rattle.lot_simulator.proofs.interleaved.FineLot.read_key.Goals.{In_ok-key}

step : (c : In_ok-key) → DoneStep (fine_lot_of c.self.inside)
    (set_lot (fine_lot_of c.self.inside) c.args.thread c.read_key.new.self c.self.inside.table.cells
    c.self.inside.callers.items) (ReadKey c.args.thread) (fine.Read c.in_ok-key.key)
step c =
    DoneStep-read_key (fine_lot_of c.self.inside) c.self.invariant.0 c.args.thread c.in_ok-ok_or.field-0.now
    c.read_key.new.self
    (rw c.in_ok-ok_or.ensures.ok_part at c.get_mut.ensures.item).3.0
    ((rw c.in_ok-ok_or.ensures.ok_part at c.get_mut.ensures.item).3.1 _) (c.in_ok-key.ensures.fits.0 refl)
    c.in_ok-key.key c.in_ok-key.ensures.ok.0 c.in_ok-key.ensures.ok.1

pub invariant_of-self-2 : goal.invariant_of-self-2
invariant_of-self-2 c =
    let now = c.in_ok-ok_or.field-0.now in (
      (step c).is_lot,
      c.self.invariant.1
          ∙ sym (uses-changed (fine_lot_of c.self.inside) c.self.invariant.0 c.args.thread now c.read_key.new.self
          (rw c.in_ok-ok_or.ensures.ok_part at c.get_mut.ensures.item).3.0
          ((rw c.in_ok-ok_or.ensures.ok_part at c.get_mut.ensures.item).3.1 _) now.thread.status now.thread.key
          (Some c.in_ok-key.key) now.slot c.in_ok-key.ensures.ok.1 refl),
    )

pub returns : goal.returns
returns c = step_of c.self.view_is (step c)

pub returns-in_err-key : goal.returns-in_err-key
returns-in_err-key c =
    let lot = fine_lot_of c.self.inside in
    let now = c.in_ok-ok_or.field-0.now in
    let below = (rw c.in_ok-ok_or.ensures.ok_part at c.get_mut.ensures.item).3.0 in
    let read = (rw c.in_ok-ok_or.ensures.ok_part at c.get_mut.ensures.item).3.1 _ in
    let at = status_is lot c.self.invariant.0 c.args.thread now c.read_key.new.self below read in
    step_of_misfit c.from_residual-in_err-key.result _ c.from_residual-in_err-key.ensures.1 c.self.view_is
    (DoneStep-kept lot c.self.invariant.0 c.args.thread now c.read_key.new.self below read (ReadKey c.args.thread)
    (fine.Answer Misfit) c.in_err-key.ensures.err
    (IsReadKey-misfit (fine_state lot) c.args.thread ((fine_state lot).threads_view.status c.args.thread)
    (λ late. let fitted = c.in_err-key.ensures.fits.1 (sym at ∙ late) in cc)))
