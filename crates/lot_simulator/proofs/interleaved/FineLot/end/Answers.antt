use Rattle.std.proofs.Common.{◌≡◌, refl, slice_get, slice_set, Some}
use Rattle.std.proofs.lemmas.Option.{slice_get_read}
use Rattle.lot_simulator.specs.declared.interleaved.FineAnswer.TheVariants as fine
use Rattle.lot_simulator.specs.declared.interleaved.FineStep.TheVariants.{End}
use Rattle.lot_machine.specs.declared.step.Answer.TheVariants.{Misfit}
use Rattle.lot_simulator.specs.FineLot.{fine_state}
use Rattle.lot_simulator.proofs.FineCallerLemmas.{DoneStep-callers, DoneStep-kept_caller, End-done, End-misfit}
use Rattle.lot_simulator.proofs.FineAnswerLemmas.{step_of_misfit}
use Rattle.lot_simulator.proofs.FineLotLemmas.{fine_lot_of}
use Rattle.lot_simulator.proofs.FineStateLemmas.{DoneStep, step_of}
use Rattle.lot_simulator.proofs.interleaved.FineLot.end.Goals as goal
use Rattle.lot_simulator.proofs.interleaved.FineLot.end.Goals.{In_ok-end}

at : (c : In_ok-end) → slice_get c.self.inside.callers.items c.args.caller ≡ Some c.in_ok-ok_or.field-0.now
at c = slice_get_read _ _ _ _ refl
    (rw c.in_ok-ok_or.ensures.ok_part at c.get_mut.ensures.item).3.0 ((rw c.in_ok-ok_or.ensures.ok_part at c.get_mut.ensures.item).3.1 _)

step : (c : In_ok-end) → DoneStep (fine_lot_of c.self.inside) (record (fine_lot_of c.self.inside) {
  callers = slice_set c.self.inside.callers.items c.args.caller c.end.new.self;
}) (End c.args.caller) fine.Ended
step c =
    let (section, opened, empty, set) = c.in_ok-end.ensures.ok in
    DoneStep-callers (fine_lot_of c.self.inside) (slice_set c.self.inside.callers.items c.args.caller c.end.new.self)
    (End c.args.caller) fine.Ended c.self.invariant.0
    (End-done (fine_state (fine_lot_of c.self.inside)) c.args.caller c.in_ok-ok_or.field-0.now (at c) section opened
    empty c.end.new.self set)

pub invariant_of-self-2 : goal.invariant_of-self-2
invariant_of-self-2 c = ((step c).is_lot, c.self.invariant.1)

pub returns : goal.returns
returns c = step_of c.self.view_is (step c)

pub returns-in_err-end : goal.returns-in_err-end
returns-in_err-end c =
    let lot = fine_lot_of c.self.inside in
    let now = c.in_ok-ok_or.field-0.now in
    let at : slice_get lot.callers c.args.caller ≡ Some now =
    slice_get_read _ _ _ _ refl
    (rw c.in_ok-ok_or.ensures.ok_part at c.get_mut.ensures.item).3.0 ((rw c.in_ok-ok_or.ensures.ok_part at c.get_mut.ensures.item).3.1 _) in
    step_of_misfit c.from_residual-in_err-end.result _ c.from_residual-in_err-end.ensures.1 c.self.view_is
    (DoneStep-kept_caller lot c.args.caller now c.end.new.self at c.in_err-end.ensures.err.0
    (End c.args.caller) (fine.Answer Misfit) c.self.invariant.0
    (End-misfit (fine_state lot) c.args.caller now at c.in_err-end.ensures.err.1))
