use Rattle.std.proofs.Common.{length}
use Rattle.lot_base.specs.NodeLists.{lists_of}
use Rattle.lot_base.proofs.FilterLemmas.{Deciding}
use Rattle.lot_base.proofs.bucket.passing.take_chosen.Given as goal

-- what the decisions still to come do from here is what all decisions do from the start
abbrev pub invariant-loop-node : goal.invariant-loop-node
invariant-loop-node g l = Deciding g.F.FnMut l.key l.fn.filter l.fn.queue l.filter l.queue l.passed l.taken l.result

abbrev pub decreases-loop-node : goal.decreases-loop-node
decreases-loop-node g l = length (lists_of l.queue l.key)
