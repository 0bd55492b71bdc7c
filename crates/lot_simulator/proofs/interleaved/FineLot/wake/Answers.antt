use Rattle.std.proofs.Common.{◌≡◌, ◌≢◌, refl, slice_get, slice_set, Some, ⊎_elim}
use Rattle.std.proofs.lemmas.Bool.{cases_eq}
use Rattle.std.proofs.lemmas.Option.{slice_get_read}
use Rattle.lot_simulator.specs.declared.interleaved.FineAnswer.TheVariants as fine
use Rattle.lot_simulator.specs.declared.interleaved.FineStep.TheVariants.{Wake}
use Rattle.lot_machine.specs.declared.step.Answer.TheVariants.{Misfit}
use Rattle.lot_simulator.specs.FineLot.{fine_state}
use Rattle.lot_simulator.proofs.FineCallerLemmas.{DoneStep-callers, DoneStep-kept_caller, Wake-done, Wake-misfit}
use Rattle.lot_simulator.proofs.FineAnswerLemmas.{step_of_misfit}
use Rattle.lot_simulator.proofs.FineLotLemmas.{fine_lot_of}
use Rattle.lot_simulator.proofs.FineStateLemmas.{DoneStep, step_of}
use Rattle.lot_simulator.proofs.interleaved.FineLot.wake.Goals as goal
use Rattle.lot_simulator.proofs.interleaved.FineLot.wake.Goals.{In_ok-wake}

at : (c : In_ok-wake) → slice_get c.self.inside.callers.items c.args.caller ≡ Some c.in_ok-ok_or.field-0.now
at c = slice_get_read _ _ _ _ refl
    (rw c.in_ok-ok_or.ensures.ok_part at c.get_mut.ensures.item).3.0 ((rw c.in_ok-ok_or.ensures.ok_part at c.get_mut.ensures.item).3.1 _)

step : (c : In_ok-wake) → DoneStep (fine_lot_of c.self.inside) (record (fine_lot_of c.self.inside) {
  callers = slice_set c.self.inside.callers.items c.args.caller c.wake.new.self;
}) (Wake c.args.caller) fine.Woken
step c =
    DoneStep-callers (fine_lot_of c.self.inside) (slice_set c.self.inside.callers.items c.args.caller c.wake.new.self)
    (Wake c.args.caller) fine.Woken c.self.invariant.0
    (Wake-done (fine_state (fine_lot_of c.self.inside)) c.args.caller c.in_ok-ok_or.field-0.now (at c)
    (c.in_ok-wake.ensures.fits.0 refl) c.wake.new.self c.in_ok-wake.ensures.ok)

pub invariant_of-self-2 : goal.invariant_of-self-2
invariant_of-self-2 c = ((step c).is_lot, c.self.invariant.1)

pub returns : goal.returns
returns c = step_of c.self.view_is (step c)

pub returns-in_err-wake : goal.returns-in_err-wake
returns-in_err-wake c =
    let lot = fine_lot_of c.self.inside in
    let now = c.in_ok-ok_or.field-0.now in
    let at : slice_get lot.callers c.args.caller ≡ Some now =
    slice_get_read _ _ _ _ refl
    (rw c.in_ok-ok_or.ensures.ok_part at c.get_mut.ensures.item).3.0 ((rw c.in_ok-ok_or.ensures.ok_part at c.get_mut.ensures.item).3.1 _) in
    step_of_misfit c.from_residual-in_err-wake.result _ c.from_residual-in_err-wake.ensures.1 c.self.view_is
    (DoneStep-kept_caller lot c.args.caller now c.wake.new.self at c.in_err-wake.ensures.err
    (Wake c.args.caller) (fine.Answer Misfit) c.self.invariant.0
    (Wake-misfit (fine_state lot) c.args.caller now at
    (⊎_elim (λ (none : now.wakes ≡ 0). none)
    (λ (some : now.wakes ≢ 0). absurd (let fitted = c.in_err-wake.ensures.fits.1 some in cc))
    (cases_eq now.wakes 0))))
