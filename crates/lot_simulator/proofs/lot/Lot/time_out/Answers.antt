use Rattle.std.proofs.Common.{◌≡◌, ◌∙◌, ap, sym, subst, IsTrue, IsSomeAnd, IfSome, ◌<◌}
use Rattle.std.proofs.Common.{length, Option, Some, None, find, slice_set}
use Rattle.std.proofs.lemmas.List.{get_or_read}
use Rattle.lot_base.specs.Node.{fields}
use Rattle.lot_base.specs.NodeFields.{NodeFields}
use Rattle.lot_base.specs.NodeLists.{has_number}
use Rattle.lot_simulator.specs.Lot.{machine, statuses}
use Rattle.lot_simulator.specs.LotState.{ThreadState}
use Rattle.lot_machine.specs.Status.{is_queued}
use Rattle.lot_machine.specs.Machine.{after_timeout, StandsAt}
use Rattle.lot_simulator.specs.Represents.{nodes_in}
use Rattle.lot_machine.specs.declared.status.Status.TheVariants.{Running}
use Rattle.lot_simulator.proofs.CommitLemmas.{below_from_status, ne-free-queued}
use Rattle.lot_simulator.proofs.LotThreadLemmas.{lot_of}
use Rattle.lot_simulator.proofs.LotLemmas.{read_thread, StandsAt-queued, IsLotStepOfUse}
use Rattle.lot_simulator.proofs.LotLemmas.{IsLotStepOfUse-after_timeout}
use Rattle.lot_simulator.proofs.RemovalLemmas.{find-standing, is_last-map, is_some-removed}
use Rattle.lot_simulator.proofs.lot.Lot.time_out.Given as given
use Rattle.lot_simulator.proofs.lot.Lot.time_out.Goals as goal
use Rattle.lot_simulator.proofs.lot.Lot.time_out.Goals.{After-key-key}

-- a late thread is one of the lot's, and stands in the list of its key
queued : (g : given.Over) (c : After-key-key g)
    → IsTrue (is_queued (statuses c.self.inside.threads.items c.args.number))
queued g c = ap is_queued (rw (← c.self.view_is) at c.requires.late)

below : (g : given.Over) (c : After-key-key g) → c.args.number < length c.self.inside.threads.items
below g c =
    below_from_status c.self.inside.threads.items c.args.number
    (ne-free-queued (statuses c.self.inside.threads.items c.args.number) (queued g c))

stands : (g : given.Over) (c : After-key-key g)
    → StandsAt (machine (lot_of c.self.inside)) c.args.number c.key-key.result
stands g c =
    let key = c.key-key.ensures ∙ ap (λ (thread : ThreadState). thread.key)
    (get_or_read c.self.inside.threads.items c.args.number c.index.result.now (below g c) c.index.ensures _) in
    subst (StandsAt (machine (lot_of c.self.inside)) c.args.number) (sym key)
    (StandsAt-queued (lot_of c.self.inside) c.args.number c.self.invariant.0 (queued g c))

-- the node of the thread is found
found : (g : given.Over) (c : After-key-key g)
    → IsSomeAnd (find (has_number c.args.number) (nodes_in c.self.inside.table.cells c.key-key.result))
    (λ node. node.number ≡ c.args.number)
found g c =
    find-standing c.args.number (nodes_in c.self.inside.table.cells c.key-key.result)
    (stands g c).once

-- what holds anyway holds where something is found
always : {A : Type 0} (P : Type 0) (option : Option A) → P → IfSome option (λ _. P)
always P None holds = tt
always P (Some _) holds = holds

pub remove-requires-clause-timed_out : goal.remove-requires-clause-timed_out
remove-requires-clause-timed_out g c =
    let at = (goal.at.remove-requires-clause-timed_out g c).After-key-key in
    let callable = rw (← at.self.view_is) at at.requires.callable in
    always {A = NodeFields} _
    (find (has_number at.args.number) (nodes_in at.self.inside.table.cells at.key-key.result))
    (rw (is_last-map at.args.number (nodes_in at.self.inside.table.cells at.key-key.result))
    (callable at.key-key.result (stands g at)))

pub remove-requires-clause-represents : goal.remove-requires-clause-represents
remove-requires-clause-represents g c =
    (goal.at.remove-requires-clause-represents g c).After-key-key.self.invariant.0.represents

pub unwrap-node-requires : goal.unwrap-node-requires
unwrap-node-requires g c =
    let at = (goal.at.unwrap-node-requires g c).After-key-key in
    is_some-removed _ _ _ _ c.remove.result (found g at) c.remove.ensures.removed

pub stop_waiting-requires-clause-number : goal.stop_waiting-requires-clause-number
stop_waiting-requires-clause-number g c =
    let at = (goal.at.stop_waiting-requires-clause-number g c).After-key-key in
    let removed = rw c.unwrap-node.ensures at c.remove.ensures.removed in
    let own : (fields c.unwrap-node.result.0.value).number ≡ c.args.number =
    subst (λ node. IsSomeAnd node (λ node. node.number ≡ c.args.number)) removed.0 (found g at) in
    own ∙ sym (read_thread (lot_of c.self.inside) c.args.number c.index_mut.result.now c.self.invariant.0
    (get_or_read c.self.inside.threads.items c.args.number c.index_mut.result.now
    (below g at) c.index_mut.ensures.value _))

step : (g : given.Over) (c : goal.After-self-1 g)
    → IsLotStepOfUse (lot_of c.self.inside)
    (record {
      buckets = c.remove.new.self.cells;
      threads = slice_set c.self.inside.threads.items c.args.number c.stop_waiting.new.self;
    }) (after_timeout (machine (lot_of c.self.inside)) c.args.number c.key-key.result)
step g c =
    let at = (goal.at.invariant_of-self g c).After-key-key in
    let after = c.stop_waiting.ensures ∙ ap (λ (thread : ThreadState). record thread { status = Running })
    (get_or_read c.self.inside.threads.items c.args.number c.index_mut.result.now
    (below g at) c.index_mut.ensures.value _) in
    rw after
    (IsLotStepOfUse-after_timeout (lot_of c.self.inside) c.args.number c.key-key.result c.remove.new.self.cells
    c.self.invariant.0 (queued g at) (stands g at) c.remove.ensures.lists)

pub invariant_of-self : goal.invariant_of-self
invariant_of-self g c =
    ((step g c).step.is_lot, c.remove.ensures.numbers ∙ c.self.invariant.1 ∙ sym (step g c).uses)

pub returns-clause-timed_out : goal.returns-clause-timed_out
returns-clause-timed_out g c =
    let at = (goal.at.returns-clause-timed_out g c).After-key-key in
    let removed = rw c.unwrap-node.ensures at c.remove.ensures.removed in
    rw (← c.self.view_is) (
      c.key-key.result,
      stands g at,
      rw (is_last-map c.args.number (nodes_in c.self.inside.table.cells c.key-key.result)) at removed.1,
      (step g c).step.means,
    )
