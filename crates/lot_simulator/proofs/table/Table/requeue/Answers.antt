use Rattle.std.proofs.Common.{◌≡◌, ◌≢◌, ◌∙◌, ℕ, List, ap, refl, sym, subst, length, slice_set, []}
use Rattle.std.proofs.Math.ListN.{length-set}
use Rattle.lot_base.proofs.RequeueLemmas.{All-left}
use Rattle.lot_base.specs.BucketState.{BucketState}
use Rattle.lot_base.specs.Place.{IsTableSize, place_of}
use Rattle.lot_base.specs.Requeue.{AreCalled}
use Rattle.lot_base.specs.Waiting.{lists_after_requeue, split_by}
use Rattle.lot_base.specs.NodeLists.{lists_of, split_to}
use Rattle.lot_simulator.specs.Represents.{bucket_at}
use Rattle.lot_simulator.specs.Table.{IsRowStep}
use Rattle.lot_simulator.specs.Represents.{nodes_in}
use Rattle.lot_simulator.proofs.RequeueRowLemmas.{IsRowStep-requeue_one, IsRowStep-requeue_two, second_taken}
use Rattle.lot_simulator.proofs.RequeueRowLemmas.{second_place}
use Rattle.lot_simulator.proofs.table.Table.requeue.Goals as goal

-- a row keeps its length
length-sets : (row : List BucketState) (p q r : ℕ) (a b d : BucketState)
    → length (slice_set (slice_set (slice_set row p a) q b) r d) ≡ length row
length-sets row p q r a b d =
    length-set (slice_set (slice_set row p a) q b) r d ∙ length-set (slice_set row p a) q b ∙ length-set row p a

pub requeue_one-done-requires-clause-from : goal.requeue_one-done-requires-clause-from
requeue_one-done-requires-clause-from g c =
    let take = c.take-source.ensures in
    ap (place_of c.args.from) take.size ∙ sym take.place

pub requeue_one-done-requires-clause-to : goal.requeue_one-done-requires-clause-to
requeue_one-done-requires-clause-to g c =
    let sized : c.take-source.result.size ≡ c.size.result = sym c.size.ensures.value in
    ap (place_of c.args.to) sized ∙ sym c.place.ensures.value ∙ c.if-place.true ∙ c.place-2.ensures.value

pub requeue_one-done-requires-clause-validate : goal.requeue_one-done-requires-clause-validate
requeue_one-done-requires-clause-validate g c = c.requires.validate

pub requeue_one-done-requires-clause-callable : goal.requeue_one-done-requires-clause-callable
requeue_one-done-requires-clause-callable g c = rw c.take-source.ensures.taken c.requires.callable

pub returns-then-place-clause-requeued : goal.returns-then-place-clause-requeued
returns-then-place-clause-requeued g c =
    let row = c.args.self.now.cells in
    let from = c.args.from in
    let to = c.args.to in
    let source = c.take-source.result in
    let take = c.take-source.ensures in
    let done = c.requeue_one-done.ensures in
    let op = done.requeued.op in
    let empty : BucketState = record source { nodes = [] } in
    let after = c.requeue_one-done.new.self in
    let same_place : place_of to (length row) ≡ source.place = ap (place_of to) (sym (c.size.ensures.value ∙ take.size))
    ∙ sym c.place.ensures.value ∙ c.if-place.true ∙ c.place-2.ensures.value in
    let waiters : lists_of source.nodes from ≡ nodes_in row from = ap (λ b. lists_of b.nodes from) take.taken in
    rw (c.put.ensures, take.left)
    (record {
      op = op;
      chosen = done.requeued.chosen;
      lists = subst (λ nodes. IsRowStep row (slice_set (slice_set row source.place empty) after.place after)
          (lists_after_requeue (nodes_in row) from to (split_to to (split_by op nodes)))) waiters
          (IsRowStep-requeue_one row from to source empty c.requeue_one-done.new.self
          (split_by op (lists_of source.nodes from)) (subst IsTableSize take.size take.table) c.requires.represents
          take.taken take.place same_place done.place.place done.requeued.lists
          (λ P all. All-left P op (lists_of source.nodes from) all));
      called = subst (λ nodes. AreCalled g.C.FnOnce g.M.FnMut op nodes c.args.callback c.args.moved.now
          c.requeue_one-done.new.moved c.requeue_one-done.result.0 c.requeue_one-done.result.1) waiters
          done.requeued.called;
    })

pub requeue_two-done-requires-clause-size : goal.requeue_two-done-requires-clause-size
requeue_two-done-requires-clause-size g c =
    let take = c.take-source.ensures in
    (rw take.left at c.take-target.ensures.size)
    ∙ length-set c.args.self.now.cells c.take-source.result.place (record c.take-source.result { nodes = [] })
    ∙ sym take.size

pub requeue_two-done-requires-clause-places : goal.requeue_two-done-requires-clause-places
requeue_two-done-requires-clause-places g c =
    let row = c.args.self.now.cells in
    let source = c.take-source.result in
    let to = c.args.to in
    let take = c.take-source.ensures in
    let placed : c.take-target.result.place ≡ place_of to (length row) =
    second_place row source.place (record source { nodes = [] }) c.take-target.result.place to
    (rw take.left at c.take-target.ensures.place) in
    λ same. c.if-place.false (c.place.ensures.value ∙ ap (place_of to) (c.size.ensures.value ∙ take.size) ∙ sym placed
    ∙ same ∙ sym c.place-2.ensures.value)

pub requeue_two-done-requires-clause-from : goal.requeue_two-done-requires-clause-from
requeue_two-done-requires-clause-from g c =
    ap (place_of c.args.from) c.take-source.ensures.size ∙ sym c.take-source.ensures.place

pub requeue_two-done-requires-clause-to : goal.requeue_two-done-requires-clause-to
requeue_two-done-requires-clause-to g c =
    ap (place_of c.args.to) c.take-target.ensures.size ∙ sym c.take-target.ensures.place

pub requeue_two-done-requires-clause-callable : goal.requeue_two-done-requires-clause-callable
requeue_two-done-requires-clause-callable g c = rw c.take-source.ensures.taken c.requires.callable

pub requeue_two-done-requires-clause-validate : goal.requeue_two-done-requires-clause-validate
requeue_two-done-requires-clause-validate g c = c.requires.validate

pub put-requires : goal.put-requires
put-requires g c =
    let source = c.take-source.result in
    rw c.take-source.ensures.left
    (c.requeue_one-done.ensures.place.size ∙ c.take-source.ensures.size
    ∙ sym (length-set c.args.self.now.cells source.place (record source { nodes = [] })))

pub put-requires-2 : goal.put-requires-2
put-requires-2 g c =
    let target = c.take-target.result in
    rw c.take-target.ensures.left
    (c.requeue_two-done.ensures.place.1.size ∙ c.take-target.ensures.size
    ∙ sym (length-set c.take-source.new.self.cells target.place (record target { nodes = [] })))

pub put-requires-3 : goal.put-requires-3
put-requires-3 g c =
    let take = c.take-source.ensures in
    rw (c.put-2.ensures, c.take-target.ensures.left, take.left)
    (c.requeue_two-done.ensures.place.0.size ∙ take.size
    ∙ sym (length-sets c.args.self.now.cells c.take-source.result.place c.take-target.result.place
    c.requeue_two-done.new.target.place (record c.take-source.result { nodes = [] })
    (record c.take-target.result { nodes = [] }) c.requeue_two-done.new.target))

pub returns-then-place-clause-numbers : goal.returns-then-place-clause-numbers
returns-then-place-clause-numbers g c = rw (c.put.ensures, c.take-source.ensures.left) refl

pub returns-clause-numbers : goal.returns-clause-numbers
returns-clause-numbers g c =
    rw (c.put-3.ensures, c.put-2.ensures, c.take-target.ensures.left, c.take-source.ensures.left) refl

pub returns-clause-requeued : goal.returns-clause-requeued
returns-clause-requeued g c =
    let row = c.args.self.now.cells in
    let from = c.args.from in
    let to = c.args.to in
    let source = c.take-source.result in
    let target = c.take-target.result in
    let take = c.take-source.ensures in
    let also = c.take-target.ensures in
    let done = c.requeue_two-done.ensures in
    let op = done.requeued.op in
    let empty : BucketState = record source { nodes = [] } in
    let also_empty : BucketState = record target { nodes = [] } in
    let after = c.requeue_two-done.new.self in
    let also_after = c.requeue_two-done.new.target in
    let apart : place_of to (length row) ≢ source.place =
    λ same. c.if-place.false (c.place.ensures.value ∙ ap (place_of to) (c.size.ensures.value ∙ take.size) ∙ same
    ∙ sym c.place-2.ensures.value) in
    let taken : target ≡ bucket_at (slice_set row source.place (record source { nodes = [] }))
    (place_of to (length row)) = second_taken row source.place _ target to (rw take.left at also.taken) in
    let placed : target.place ≡ place_of to (length row) =
    second_place row source.place (record source { nodes = [] }) target.place to (rw take.left at also.place) in
    let waiters : lists_of source.nodes from ≡ nodes_in row from = ap (λ b. lists_of b.nodes from) take.taken in
    rw (c.put-3.ensures, c.put-2.ensures, also.left, take.left)
    (record {
      op = op;
      chosen = done.requeued.chosen;
      lists = subst (λ nodes. IsRowStep row
          (slice_set (slice_set (slice_set (slice_set row source.place empty) target.place also_empty) also_after.place
          also_after) after.place after) (lists_after_requeue (nodes_in row) from to (split_to to (split_by op nodes))))
          waiters
          (IsRowStep-requeue_two row from to source empty c.requeue_two-done.new.self target also_empty
          c.requeue_two-done.new.target (split_by op (lists_of source.nodes from))
          (subst IsTableSize take.size take.table) c.requires.represents take.taken take.place apart taken placed
          done.place.0.place done.place.1.place done.requeued.lists done.requeued.targets
          (λ P all. All-left P op (lists_of source.nodes from) all));
      called = subst (λ nodes. AreCalled g.C.FnOnce g.M.FnMut op nodes c.args.callback c.args.moved.now
          c.requeue_two-done.new.moved c.requeue_two-done.result.0 c.requeue_two-done.result.1) waiters
          done.requeued.called;
    })
