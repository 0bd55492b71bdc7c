use Rattle.std.proofs.Common.{rules, ◌≡◌, sym}
use Rattle.lot_base.specs.Waiting.{split_by}
use Rattle.lot_base.specs.NodeLists.{lists_of}
use Rattle.lot_base.specs.contracts.bucket.Bucket.{the_view}
use Rattle.lot_base.proofs.WaitingLemmas.{IsInPlace-left}
use Rattle.lot_base.proofs.RequeueLemmas.{All-left, IsInPlace-moved, lists_of-requeued, lists-aborted, no_answer}
use Rattle.lot_base.proofs.RequeueLemmas.{AreCalled-aborted}
use Rattle.lot_base.proofs.bucket.Bucket.requeue_one.Goals as goal

pub invariant_of-self-2 : goal.invariant_of-self-2
invariant_of-self-2 g c =
    let bucket = the_view c.self.inside in
    let op = c.validate-op.result in
    let waiters = lists_of bucket.nodes c.args.from in
    let split = split_by op waiters in
    let kept = IsInPlace-left bucket c.args.from c.requeue_from.new.queue split.left
    (λ P. All-left P op waiters) c.in-Some.ensures.lists c.self.invariant in
    IsInPlace-moved (record bucket { nodes = c.requeue_from.new.queue }) c.args.to split.moved c.append.new.self
    (search rules) (search rules) kept

pub returns-clause-requeued : goal.returns-clause-requeued
returns-clause-requeued g c =
    let split = split_by c.validate-op.result (lists_of c.self.inside.queue c.args.from) in
    rw (← c.self.view_is)
    (record {
      op = c.validate-op.result;
      chosen = c.validate-op.ensures;
      lists = rw (c.append.ensures.nodes, c.in-Some.ensures.moved)
          (lists_of-requeued c.args.from c.args.to c.self.inside.queue c.requeue_from.new.queue split
          c.in-Some.ensures.lists);
      called = c.in-Some.ensures.called;
    })

pub returns-in_default-clause-requeued : goal.returns-in_default-clause-requeued
returns-in_default-clause-requeued g c =
    let (aborts, unchanged, last) = c.in_default.ensures.aborted in
    let nothing : c.default.result ≡ no_answer = search rules in
    rw (← c.self.view_is)
    (record {
      op = c.validate-op.result;
      chosen = c.validate-op.ensures;
      lists = rw (unchanged, aborts) (λ k. sym (lists-aborted (lists_of c.self.inside.queue) c.args.from c.args.to k));
      called = rw nothing
          (AreCalled-aborted g.C.FnOnce g.M.FnMut c.validate-op.result
          (lists_of c.self.inside.queue c.args.from) c.args.callback c.args.moved.now c.requeue_from.new.moved
          c.new.result aborts last c.new.ensures);
    })
