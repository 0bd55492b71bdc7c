use Rattle.std.proofs.Common.{rules, arith, ◌≡◌}
use Rattle.lot_base.specs.Node.{fields}
use Rattle.lot_base.specs.NodeLists.{lists_of}
use Rattle.lot_base.proofs.RequeueLemmas.{lists_of-others, others_of, lists_of-first}
use Rattle.lot_base.proofs.RequeueLemmas.{count_one_more, moved_one_more, callable_first, callable_one_more}
use Rattle.lot_base.proofs.RequeueLemmas.{move_read, called_one_more}
use Rattle.lot_base.proofs.bucket.requeue.rekey_every.Goals as goal

pub loop-node-preserved-then-deref-from : goal.loop-node-preserved-then-deref-from
loop-node-preserved-then-deref-from g c =
    let first = fields c.in-Some.node.value in
    let rest = lists_of c.pop_front.new.self c.args.from in
    let waiters = lists_of c.loop-node.nodes c.args.from in
    let popped = lists_of-first c.args.from first c.pop_front.new.self c.loop-node.nodes (search rules)
    (search rules) in
    let move = move_read c.in-Some.node.value c.deref-then-deref-from.result.now c.deref-then-deref-from-2.result.now
    (search rules) (search rules) in
    record {
      rekeyed = moved_one_more c.args.to first rest waiters c.loop-node.rekeyed
          c.push_back.new.self _ popped (search rules) c.loop-node.invariant.rekeyed;
      others = search rules;
      count = search (rules, count_one_more, popped);
      fits = omega arith;
      callable = callable_one_more g.M.FnMut c.loop-node.moved c.moved.new.self first rest
          waiters _ popped c.moved.ensures move c.loop-node.invariant.callable;
      called = λ last after. c.loop-node.invariant.called last
          (called_one_more g.M.FnMut c.loop-node.moved c.moved.new.self first rest waiters _
          popped c.moved.ensures move last after);
    }

pub moved-requires : goal.moved-requires
moved-requires g c =
    let first = fields c.in-Some.node.value in
    let waiters = lists_of-first c.args.from first c.pop_front.new.self c.loop-node.nodes (search rules)
    (search rules) in
    callable_first g.M.FnMut c.loop-node.moved first (lists_of c.pop_front.new.self c.args.from)
    (lists_of c.loop-node.nodes c.args.from) _ waiters
    (move_read c.in-Some.node.value c.deref-then-deref-from.result.now c.deref-then-deref-from-2.result.now
    (search rules) (search rules)) c.loop-node.invariant.callable

pub returns-clause-lists : goal.returns-clause-lists
returns-clause-lists g c = λ k. let e : c.loop-node.others ≡ others_of c.args.from c.args.queue.now = search rules in
    rw e (lists_of-others c.args.from c.args.queue.now k)
