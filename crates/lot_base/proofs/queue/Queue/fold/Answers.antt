use Rattle.std.proofs.Common.{refl}
use Rattle.lot_base.specs.Fold.{CalledAtNode}
use Rattle.lot_base.specs.Node.{fields}
use Rattle.lot_base.proofs.FoldLemmas.{CanFold-first, CanFold-behind}
use Rattle.lot_base.proofs.queue.Queue.fold.Goals as goal

pub f-answer-requires : goal.f-answer-requires
f-answer-requires g c =
    CanFold-first g.F.FnMut c.loop-node.f c.loop-node.answer c.in-Some.node _
    (rw c.in-Some.ensures at c.loop-node.invariant.callable)

pub loop-node-preserved : goal.loop-node-preserved
loop-node-preserved g c =
    let call : CalledAtNode g.F.FnMut c.loop-node.f c.loop-node.answer
    (fields c.in-Some.node.now) c.f-answer.result c.f-answer.new.self =
    record { shown = c.in-Some.node; shows = refl; called = c.f-answer.ensures } in
    record {
      callable = CanFold-behind g.F.FnMut _ _ _ _ _ _ call (rw c.in-Some.ensures at c.loop-node.invariant.callable);
      calls = λ last result folds. c.loop-node.invariant.calls last result (rw c.in-Some.ensures (record {
        calls =
            ((c.f-answer.new.self, c.f-answer.result), call, folds.calls);
      }));
    }
