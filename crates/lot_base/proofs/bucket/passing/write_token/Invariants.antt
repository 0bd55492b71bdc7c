use Rattle.std.proofs.Common.{◌≡◌, ◌++◌, map, length}
use Rattle.lot_base.specs.NodeLists.{with_token}
use Rattle.lot_base.proofs.bucket.passing.write_token.Given as goal

abbrev pub invariant-loop-node : goal.invariant-loop-node
invariant-loop-node l = record {
  written : l.written ++ map (with_token l.token) l.nodes ≡ map (with_token l.token) l.fn.nodes;
}

abbrev pub decreases-loop-node : goal.decreases-loop-node
decreases-loop-node l = length l.nodes
