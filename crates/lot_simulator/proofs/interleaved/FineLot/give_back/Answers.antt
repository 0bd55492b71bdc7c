use Rattle.std.proofs.Common.{◌∙◌, sym, ap, None}
use Rattle.lot_simulator.specs.declared.interleaved.FineAnswer.TheVariants as fine
use Rattle.lot_simulator.specs.declared.interleaved.FineStep.TheVariants.{Return}
use Rattle.lot_machine.specs.declared.status.Status.TheVariants.{Running}
use Rattle.lot_machine.specs.declared.step.Answer.TheVariants.{Misfit, Unparked}
use Rattle.lot_simulator.specs.FineLot.{fine_state}
use Rattle.lot_simulator.specs.Lot.{use_of}
use Rattle.lot_simulator.proofs.FineAnswerLemmas.{step_of_misfit}
use Rattle.lot_simulator.proofs.FineLotLemmas.{fine_lot_of}
use Rattle.lot_simulator.proofs.FineStateLemmas.{DoneStep, DoneStep-kept, set_lot, step_of, slot_is}
use Rattle.lot_simulator.proofs.FineStateLemmas.{status_is, uses-changed}
use Rattle.lot_simulator.proofs.FineThreadLemmas.{DoneStep-return, IsReturn-misfit}
use Rattle.lot_simulator.proofs.interleaved.FineLot.give_back.Goals as goal
use Rattle.lot_simulator.proofs.interleaved.FineLot.give_back.Goals.{In_ok-token}

step : (c : In_ok-token) → DoneStep (fine_lot_of c.self.inside)
    (set_lot (fine_lot_of c.self.inside) c.args.thread c.give_back.new.self c.self.inside.table.cells
    c.self.inside.callers.items) (Return c.args.thread) (fine.Answer (Unparked c.in_ok-token.token))
step c =
    let (timed, waits, full, set) = c.in_ok-token.ensures.ok in
    DoneStep-return (fine_lot_of c.self.inside) c.self.invariant.0 c.args.thread c.in_ok-ok_or.field-0.now
    c.give_back.new.self
    (rw c.in_ok-ok_or.ensures.ok_part at c.get_mut.ensures.item).3.0
    ((rw c.in_ok-ok_or.ensures.ok_part at c.get_mut.ensures.item).3.1 _) timed c.in_ok-token.token waits full set

pub invariant_of-self-2 : goal.invariant_of-self-2
invariant_of-self-2 c =
    let (timed, waits, full, set) = c.in_ok-token.ensures.ok in (
      (step c).is_lot,
      c.self.invariant.1
          ∙ sym (uses-changed (fine_lot_of c.self.inside) c.self.invariant.0 c.args.thread c.in_ok-ok_or.field-0.now
          c.give_back.new.self
          (rw c.in_ok-ok_or.ensures.ok_part at c.get_mut.ensures.item).3.0 ((rw c.in_ok-ok_or.ensures.ok_part at c.get_mut.ensures.item).3.1 _) Running
          c.in_ok-ok_or.field-0.now.thread.key None None set (ap use_of (sym waits))),
    )

pub returns : goal.returns
returns c = step_of c.self.view_is (step c)

pub returns-in_err-token : goal.returns-in_err-token
returns-in_err-token c =
    let lot = fine_lot_of c.self.inside in
    let now = c.in_ok-ok_or.field-0.now in
    let below = (rw c.in_ok-ok_or.ensures.ok_part at c.get_mut.ensures.item).3.0 in
    let read = (rw c.in_ok-ok_or.ensures.ok_part at c.get_mut.ensures.item).3.1 _ in
    let status = status_is lot c.self.invariant.0 c.args.thread now c.give_back.new.self below read in
    let slot = slot_is lot c.self.invariant.0 c.args.thread now c.give_back.new.self below read in
    step_of_misfit c.from_residual-in_err-token.result _ c.from_residual-in_err-token.ensures.1 c.self.view_is
    (DoneStep-kept lot c.self.invariant.0 c.args.thread now c.give_back.new.self below read (Return c.args.thread)
    (fine.Answer Misfit) c.in_err-token.ensures.err.0
    (IsReturn-misfit (fine_state lot) c.args.thread ((fine_state lot).threads_view.status c.args.thread)
    ((fine_state lot).slots c.args.thread)
    (λ timed waits. slot ∙ c.in_err-token.ensures.err.1 timed (sym status ∙ waits))))
