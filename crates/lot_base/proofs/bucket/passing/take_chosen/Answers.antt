use Rattle.lot_base.specs.declared.token.FilterOp.TheVariants.{Unpark, Skip, Stop}
use Rattle.lot_base.proofs.FilterLemmas.{Decided, Asked-at_node, Deciding-unpark, Deciding-skip, Decided-stop}
use Rattle.lot_base.proofs.FilterLemmas.{Decided-end}
use Rattle.lot_base.proofs.bucket.passing.take_chosen.Goals as goal
use Rattle.lot_base.proofs.bucket.passing.take_chosen.Goals.{in-Some+in-Stop, in_default}

pub loop-node-preserved-in-Unpark : goal.loop-node-preserved-in-Unpark
loop-node-preserved-in-Unpark g c =
    let found = c.in-Some.ensures in
    let asked = Asked-at_node g.F.FnMut c.args.key c.args.filter c.args.queue.now _ _ _ _ _ _ c.in-Some.node.value _
    Unpark found.nodes found.passed found.waiters found.found c.deref.ensures c.in-Unpark.ensures in
    Deciding-unpark g.F.FnMut c.args.key c.args.filter c.args.queue.now _ _ _ _ _ _ _ _ _ c.loop-node.invariant asked _
    _ c.push_back.ensures c.saturating_add.ensures

pub loop-node-preserved : goal.loop-node-preserved
loop-node-preserved g c =
    let found = c.in-Some.ensures in
    let asked = Asked-at_node g.F.FnMut c.args.key c.args.filter c.args.queue.now _ _ _ _ _ _ c.in-Some.node.value _
    Skip found.nodes found.passed found.waiters found.found c.deref.ensures c.in-Skip.ensures in
    Deciding-skip g.F.FnMut c.args.key c.args.filter c.args.queue.now _ _ _ _ _ _ _ _ _ c.loop-node.invariant asked _
    c.push_back-in-Skip.ensures

pub returns : goal.returns
returns g c =
    let all : Decided g.F.FnMut c.args.key c.args.filter c.args.queue.now c.append.new.self c.loop-node.taken
    c.match-take_next.result = elim c.match-take_next.branch [
      | in-Some+in-Stop w ↦
          let found = w.in-Some.ensures in
          let asked = Asked-at_node g.F.FnMut c.args.key c.args.filter c.args.queue.now _ _ _ _ _ _ w.in-Some.node.value
          _ Stop found.nodes found.passed found.waiters found.found w.deref.ensures w.in-Stop.ensures in
          rw (c.append.ensures.nodes, w.passed-is, w.result-is)
          (Decided-stop g.F.FnMut c.args.key c.args.filter c.args.queue.now _ _ _ _ _ _ _ _ _ c.loop-node.invariant
          asked _ w.push_back-in-Stop.ensures)
      | in_default w ↦
          let found = w.in_default.ensures in
          rw (c.append.ensures.nodes, w.passed-is, w.result-is)
          (Decided-end g.F.FnMut c.args.key c.args.filter c.args.queue.now _ _ _ _ _ _ _ c.loop-node.invariant
          found.nodes found.passed found.waiters found.none)
    ] in
    record {
      decisions = all.decisions;
      decided = all.decided;
      lists = all.lists;
      answer = all.answer;
      taken = all.takes;
    }
