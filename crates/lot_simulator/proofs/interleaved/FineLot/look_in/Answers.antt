use Rattle.std.proofs.Common.{◌≡◌, ◌∙◌, ◌<◌, ap, refl, sym, subst, false, Some, None, length}
use Rattle.std.proofs.lemmas.List.{get_or_read}
use Rattle.lot_simulator.specs.declared.interleaved.FineAnswer.TheVariants as fine
use Rattle.lot_simulator.specs.declared.interleaved.FineStep.TheVariants.{Look}
use Rattle.lot_machine.specs.declared.status.Status.TheVariants.{Running}
use Rattle.lot_machine.specs.declared.step.Answer.TheVariants.{Unparked}
use Rattle.lot_simulator.specs.FineLot.{fine_state, fine_thread_at}
use Rattle.lot_simulator.specs.FineLotState.{FineLotState}
use Rattle.lot_simulator.specs.InterleavedSteps.{is_held}
use Rattle.lot_simulator.specs.Lot.{use_of}
use Rattle.lot_simulator.proofs.FineLotLemmas.{fine_lot_of}
use Rattle.lot_simulator.proofs.FineStateLemmas.{DoneStep, set_lot, step_of, uses-changed}
use Rattle.lot_simulator.proofs.FineTableLemmas.{DoneStep-look_unparked, DoneStep-retry, below-read, late}
use Rattle.lot_simulator.proofs.interleaved.FineLot.look_in.Goals as goal
use Rattle.lot_simulator.proofs.interleaved.FineLot.look_in.Goals.{After-key_word, In-Some}

reads : (c : After-key_word) → (fine_state (fine_lot_of c.self.inside)).keys_read c.args.thread ≡ Some c.args.key
reads c =
    subst (λ (lot : FineLotState). (fine_state lot).keys_read c.args.thread ≡ Some c.args.key) (sym c.self.view_is)
    c.requires.read

free : (c : After-key_word) → is_held (fine_state (fine_lot_of c.self.inside)) c.args.key ≡ false
free c =
    subst (λ (lot : FineLotState). is_held (fine_state lot) c.args.key ≡ false) (sym c.self.view_is) c.requires.free

below : (c : After-key_word) → c.args.thread < length c.self.inside.threads.items
below c = below-read (fine_lot_of c.self.inside) c.args.thread c.args.key (reads c)

read : (c : After-key_word) → c.index_mut-late.result.now ≡ fine_thread_at c.self.inside.threads.items c.args.thread
read c =
    get_or_read c.self.inside.threads.items c.args.thread c.index_mut-late.result.now (below c)
    c.index_mut-late.ensures.value _

retry : (c : goal.After-self-1) → DoneStep (fine_lot_of c.self.inside)
    (set_lot (fine_lot_of c.self.inside) c.args.thread c.forget_key.new.self c.self.inside.table.cells
    c.self.inside.callers.items) (Look c.args.thread) fine.Retry
retry c =
    let at = (goal.at.invariant_of-self c).After-key_word in
    DoneStep-retry (fine_lot_of c.self.inside) c.self.invariant.0 c.args.thread c.index_mut-late.result.now
    c.forget_key.new.self (below at) (read at) c.args.key (reads at) (free at)
    (λ same. c.if-key_word-key.true (c.key_word.ensures ∙ same)) c.forget_key.ensures

pub invariant_of-self : goal.invariant_of-self
invariant_of-self c =
    let at = (goal.at.invariant_of-self c).After-key_word in
    let now = c.index_mut-late.result.now in (
      (retry c).is_lot,
      c.self.invariant.1
          ∙ sym (uses-changed (fine_lot_of c.self.inside) c.self.invariant.0 c.args.thread now c.forget_key.new.self
          (below at) (read at) now.thread.status now.thread.key None now.slot c.forget_key.ensures refl),
    )

pub returns-then-key_word-key : goal.returns-then-key_word-key
returns-then-key_word-key c = step_of c.self.view_is (retry c)

unparked : (c : In-Some) → DoneStep (fine_lot_of c.self.inside)
    (set_lot (fine_lot_of c.self.inside) c.args.thread c.take_node.new.self c.self.inside.table.cells
    c.self.inside.callers.items) (Look c.args.thread) (fine.Answer (Unparked c.in-Some.token))
unparked c =
    let at = (goal.at.invariant_of-self-in-Some c).After-key_word in
    DoneStep-look_unparked (fine_lot_of c.self.inside) c.self.invariant.0 c.args.thread c.index_mut-late.result.now
    c.take_node.new.self (below at) (read at) c.args.key (reads at) (free at)
    (sym c.key_word.ensures ∙ c.if-key_word-key.false) c.in-Some.token (sym c.in-Some.ensures.token)
    c.in-Some.ensures.some

pub invariant_of-self-in-Some : goal.invariant_of-self-in-Some
invariant_of-self-in-Some c =
    let at = (goal.at.invariant_of-self-in-Some c).After-key_word in
    let lot = fine_lot_of c.self.inside in
    let now = c.index_mut-late.result.now in (
      (unparked c).is_lot,
      c.self.invariant.1
          ∙ sym (uses-changed lot c.self.invariant.0 c.args.thread now c.take_node.new.self (below at) (read at) Running
          now.thread.key None None c.in-Some.ensures.some
          (ap use_of (sym (late lot c.self.invariant.0 c.args.thread now now (below at) (read at) c.args.key (reads at)
          (free at))))),
    )

pub returns-in-Some : goal.returns-in-Some
returns-in-Some c = step_of c.self.view_is (unparked c)
