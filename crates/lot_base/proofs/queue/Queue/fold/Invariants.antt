use Rattle.std.proofs.Common.{length}
use Rattle.lot_base.specs.Chain.{all_fields}
use Rattle.lot_base.specs.Fold.{CanFold, Folds}
use Rattle.lot_base.proofs.queue.Queue.fold.Given as goal

-- what the calls still to come do from here is what all calls do from the start
abbrev pub invariant-loop-node : goal.invariant-loop-node
invariant-loop-node g l = record {
  callable : CanFold g.F.FnMut l.f l.answer (all_fields l.nodes.nodes);
  calls : (last : _) (result : _) → Folds g.F.FnMut l.f l.answer (all_fields l.nodes.nodes) last result
      → Folds g.F.FnMut l.fn.f l.fn.start l.fn.self last result;
}

abbrev pub decreases-loop-node : goal.decreases-loop-node
decreases-loop-node g l = length l.nodes.nodes
