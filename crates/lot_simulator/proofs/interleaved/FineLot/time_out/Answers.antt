use Rattle.std.proofs.Common.{◌≡◌, ◌∙◌, ◌<◌, ap, sym, subst, rules, not, false, Some, None, length, map}
use Rattle.std.proofs.lemmas.List.{get_or_read}
use Rattle.lot_base.specs.Node.{fields}
use Rattle.lot_base.specs.NodeLists.{has_number}
use Rattle.lot_base.specs.Waiting.{has_any, without_first}
use Rattle.lot_simulator.specs.declared.interleaved.FineAnswer.TheVariants as fine
use Rattle.lot_simulator.specs.declared.interleaved.FineStep.TheVariants.{Look}
use Rattle.lot_machine.specs.declared.status.Status.TheVariants.{Running}
use Rattle.lot_machine.specs.declared.step.Answer.TheVariants.{TimedOut}
use Rattle.lot_simulator.specs.FineLot.{fine_state}
use Rattle.lot_simulator.specs.FineLotState.{FineLotState}
use Rattle.lot_simulator.specs.InterleavedSteps.{is_held}
use Rattle.lot_simulator.specs.Lot.{use_of}
use Rattle.lot_machine.specs.Machine.{times_in}
use Rattle.lot_simulator.specs.Represents.{nodes_in, waiter_of}
use Rattle.lot_simulator.proofs.FineLotLemmas.{fine_lot_of}
use Rattle.lot_simulator.proofs.FineStateLemmas.{DoneStep, number_is, set_lot, step_of, uses-changed}
use Rattle.lot_simulator.proofs.FineTableLemmas.{DoneStep-timed_out, below-read, late, once-standing}
use Rattle.lot_base.proofs.RemoveLemmas.{find-number}
use Rattle.lot_simulator.proofs.RemovalLemmas.{find-standing, is_last-map, is_some-removed}
use Rattle.lot_simulator.proofs.interleaved.FineLot.time_out.Goals as goal
use Rattle.lot_simulator.proofs.interleaved.FineLot.time_out.Goals.{After-remove}

reads : (c : After-remove) → (fine_state (fine_lot_of c.self.inside)).keys_read c.args.thread ≡ Some c.args.key
reads c =
    subst (λ (lot : FineLotState). (fine_state lot).keys_read c.args.thread ≡ Some c.args.key) (sym c.self.view_is)
    c.requires.read

free : (c : After-remove) → is_held (fine_state (fine_lot_of c.self.inside)) c.args.key ≡ false
free c =
    subst (λ (lot : FineLotState). is_held (fine_state lot) c.args.key ≡ false) (sym c.self.view_is) c.requires.free

same : (c : After-remove) → (fine_state (fine_lot_of c.self.inside)).key_words c.args.thread ≡ c.args.key
same c =
    subst (λ (lot : FineLotState). (fine_state lot).key_words c.args.thread ≡ c.args.key) (sym c.self.view_is)
    c.requires.same

empty : (c : After-remove) → (fine_state (fine_lot_of c.self.inside)).slots c.args.thread ≡ None
empty c =
    subst (λ (lot : FineLotState). (fine_state lot).slots c.args.thread ≡ None) (sym c.self.view_is) c.requires.empty

below : (c : After-remove) → c.args.thread < length c.self.inside.threads.items
below c = below-read (fine_lot_of c.self.inside) c.args.thread c.args.key (reads c)

once : (c : After-remove)
    → times_in c.args.thread (map waiter_of (nodes_in c.self.inside.table.cells c.args.key)) ≡ 1
once c =
    once-standing (fine_state (fine_lot_of c.self.inside)) c.self.invariant.0.consistent c.args.thread c.args.key
    (reads c) (free c) (same c) (empty c)

pub unwrap-node-requires : goal.unwrap-node-requires
unwrap-node-requires c =
    let at = (goal.at.unwrap-node-requires c).After-remove in
    is_some-removed _ _ _ _ c.remove.result
    (find-standing c.args.thread (nodes_in c.self.inside.table.cells c.args.key) (once at)) c.remove.ensures.removed

pub stop_waiting-requires-clause-number : goal.stop_waiting-requires-clause-number
stop_waiting-requires-clause-number c =
    let at = (goal.at.stop_waiting-requires-clause-number c).After-remove in
    let removed = rw c.unwrap-node.ensures at c.remove.ensures.removed in
    let now = c.index_mut.result.now in
    find-number c.args.thread (nodes_in c.self.inside.table.cells c.args.key) (fields c.unwrap-node.result.0.value)
    removed.0
    ∙ sym (number_is (fine_lot_of c.self.inside) c.self.invariant.0 c.args.thread now now (below at)
    (get_or_read c.self.inside.threads.items c.args.thread now (below at) c.index_mut.ensures.value _))

-- whether nobody is left
last_is : (c : goal.After-self-1) → c.unwrap-node.result.1
    ≡ not (has_any (without_first (has_number c.args.thread) (nodes_in c.self.inside.table.cells c.args.key)))
last_is c = let removed = rw c.unwrap-node.ensures at c.remove.ensures.removed in search rules

step : (c : goal.After-self-1) → DoneStep (fine_lot_of c.self.inside)
    (set_lot (fine_lot_of c.self.inside) c.args.thread c.stop_waiting.new.self c.remove.new.self.cells
    c.self.inside.callers.items) (Look c.args.thread) (fine.Answer (TimedOut c.args.key c.unwrap-node.result.1))
step c =
    let at = (goal.at.invariant_of-self c).After-remove in
    let now = c.index_mut.result.now in
    DoneStep-timed_out (fine_lot_of c.self.inside) c.self.invariant.0 c.args.thread now c.stop_waiting.new.self
    (below at) (get_or_read c.self.inside.threads.items c.args.thread now (below at) c.index_mut.ensures.value _)
    c.args.key (reads at) (free at) (same at) (empty at) c.remove.new.self.cells c.remove.ensures.lists
    c.stop_waiting.ensures c.unwrap-node.result.1
    (last_is c ∙ is_last-map c.args.thread (nodes_in c.self.inside.table.cells c.args.key))

pub invariant_of-self : goal.invariant_of-self
invariant_of-self c =
    let at = (goal.at.invariant_of-self c).After-remove in
    let lot = fine_lot_of c.self.inside in
    let now = c.index_mut.result.now in
    let read = get_or_read c.self.inside.threads.items c.args.thread now (below at) c.index_mut.ensures.value _ in (
      (step c).is_lot,
      c.remove.ensures.numbers
          ∙ c.self.invariant.1
          ∙ sym (uses-changed lot c.self.invariant.0 c.args.thread now c.stop_waiting.new.self (below at) read Running
          now.thread.key None now.slot c.stop_waiting.ensures
          (ap use_of (sym (late lot c.self.invariant.0 c.args.thread now now (below at) read c.args.key (reads at)
          (free at))))),
    )

pub returns : goal.returns
returns c = step_of c.self.view_is (step c)
