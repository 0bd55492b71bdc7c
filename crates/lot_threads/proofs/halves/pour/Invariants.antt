use Rattle.std.proofs.Common.{◌≡◌, List, ◌++◌, All, length}
use Rattle.lot_base.specs.BucketState.{KeepsPlace}
use Rattle.lot_base.specs.NodeFields.{NodeFields}
use Rattle.lot_base.specs.Place.{place_of}
use Rattle.lot_threads.proofs.halves.pour.Given as goal

-- of the nodes these have gone
abbrev pub invariant-loop-node : goal.invariant-loop-node
invariant-loop-node l = record {
  from : KeepsPlace l.fn.from l.from;
  into : KeepsPlace l.fn.into l.into;
  gone : List NodeFields;
  before : l.fn.from.nodes ≡ gone ++ l.from.nodes;
  behind : l.into.nodes ≡ l.fn.into.nodes ++ gone;
  in_place : All (λ node. place_of node.key l.fn.from.size ≡ l.fn.from.place) gone;
}

abbrev pub decreases-loop-node : goal.decreases-loop-node
decreases-loop-node l = length l.from.nodes
