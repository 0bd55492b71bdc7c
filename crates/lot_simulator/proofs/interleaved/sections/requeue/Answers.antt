use Rattle.std.proofs.Common.{rules, ◌≡◌, ◌≢◌, ◌∙◌, ap, List, map, refl, subst, sym, Vec}
use Rattle.lot_base.specs.NodeFields.{NodeFields}
use Rattle.lot_base.specs.NodeLists.{split_to, with_saturated_counts, with_token}
use Rattle.lot_base.specs.Requeue.{numbers}
use Rattle.lot_base.specs.Waiting.{lists_after_requeue, requeue_result, split_by}
use Rattle.lot_base.specs.declared.token.RequeueOp.{RequeueOp}
use Rattle.lot_base.specs.declared.token.RequeueOp.TheVariants.{Abort, UnparkOneRequeueRest, RequeueAll, UnparkOne}
use Rattle.lot_base.specs.declared.token.RequeueOp.TheVariants.{RequeueOne}
use Rattle.lot_base.specs.declared.token.UnparkToken.{UnparkToken}
use Rattle.lot_simulator.specs.Private.FineSection.{fine_threads_with_key, fine_threads_with_keys}
use Rattle.lot_simulator.specs.Represents.{nodes_in}
use Rattle.lot_simulator.specs.Table.{IsRowStep}
use Rattle.lot_simulator.proofs.RequeuedLemmas.{all_kept, keys_set}
use Rattle.lot_simulator.proofs.interleaved.sections.requeue.Goals as goal

-- nobody is taken by an abort, so its token is no one's
taken-token : (op : RequeueOp) (nodes : List NodeFields) (given token : UnparkToken) → (op ≢ Abort → given ≡ token)
    → map (with_token given) (split_by op nodes).taken ≡ map (with_token token) (split_by op nodes).taken
taken-token Abort nodes given token same = refl
taken-token UnparkOneRequeueRest nodes given token same =
    ap (λ t. map (with_token t) (split_by UnparkOneRequeueRest nodes).taken) (same (λ aborts. cc))
taken-token RequeueAll nodes given token same = refl
taken-token UnparkOne nodes given token same =
    ap (λ t. map (with_token t) (split_by UnparkOne nodes).taken) (same (λ aborts. cc))
taken-token RequeueOne nodes given token same = refl

pub returns-clause-rows : goal.returns-clause-rows
returns-clause-rows c =
    let row = c.args.table.now.cells in
    let op_is : c.requeue.ensures.requeued.op ≡ c.args.op = search rules in
    subst (λ (op : RequeueOp). IsRowStep row c.requeue.new.self.cells
    (lists_after_requeue (nodes_in row) c.args.from c.args.to
    (split_to c.args.to (split_by op (nodes_in row c.args.from))))) op_is c.requeue.ensures.requeued.lists

pub returns-clause-answer : goal.returns-clause-answer
returns-clause-answer c =
    let op_is : c.requeue.ensures.requeued.op ≡ c.args.op = search rules in
    c.requeue.ensures.requeued.called.results
    ∙ ap (λ (op : RequeueOp).
    with_saturated_counts (requeue_result op (split_by op (nodes_in c.args.table.now.cells c.args.from)))) op_is

pub returns-clause-threads : goal.returns-clause-threads
returns-clause-threads c =
    let op_is : c.requeue.ensures.requeued.op ≡ c.args.op = search rules in
    let moves = c.requeue.ensures.requeued.called.moves in
    let same = all_kept fine_threads_with_key fine_threads_with_keys (λ key threads. refl)
    (λ key number numbers threads. refl) _ (λ moved. moved.0.now.items) (λ moved. (moved.1.now, moved.0.ghost_name))
    (λ now next number timed called. (search rules, search rules)) _ _ _ moves in
    let keys = keys_set fine_threads_with_key fine_threads_with_keys (λ key threads. refl)
    (λ key number numbers threads. refl) _ (λ moved. moved.0.now.items) (λ moved. (moved.1.now, moved.0.ghost_name))
    (λ now next number timed called. (search rules, search rules)) _ _ _ moves in
    ap (λ (threads : Vec _ _). threads.items) (c.threads-1.given.1 (sym (ap (λ kept. kept.1) same))) ∙ keys
    ∙ ap (λ (op : RequeueOp). fine_threads_with_keys c.args.to
    (numbers (split_by op (nodes_in c.args.table.now.cells c.args.from)).moved) c.args.threads.now.items) op_is

pub returns-clause-nodes : goal.returns-clause-nodes
returns-clause-nodes c =
    let op_is : c.requeue.ensures.requeued.op ≡ c.args.op = search rules in
    let done = c.requeue.ensures.requeued in
    let nodes = nodes_in c.args.table.now.cells c.args.from in
    done.called.takes
    ∙ taken-token done.op nodes done.called.token c.args.token
    (λ other. let called = done.called.calls_back other in search rules)
    ∙ ap (λ (op : RequeueOp). map (with_token c.args.token) (split_by op nodes).taken) op_is
