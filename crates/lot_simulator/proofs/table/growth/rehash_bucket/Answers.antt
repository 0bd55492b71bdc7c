use Rattle.std.proofs.Common.{◌≡◌, ℕ, ◌∙◌, length, ap, arith}
use Rattle.lot_base.specs.Node.{fields}
use Rattle.lot_base.specs.Place.{place_of}
use Rattle.lot_base.specs.declared.queue.Node.{Node}
use Rattle.lot_simulator.proofs.GrowthLemmas.{IsSpreading-start, IsSpreading-step, own_place, with_node-is}
use Rattle.lot_simulator.proofs.table.growth.rehash_bucket.Goals as goal

-- the place of the node that was read
target : (node read : Node) (place len size : ℕ) → place ≡ place_of read.key len → read ≡ node → len ≡ size
    → place ≡ place_of (fields node).key size
target node read place len size is same sized =
    is ∙ ap (λ n. place_of n.key len) same ∙ ap (place_of (fields node).key) sized

pub loop-node-init : goal.loop-node-init
loop-node-init c =
    IsSpreading-start c.args.row.now.items c.args.bucket.now c.requires.row c.requires.represents

pub put_last-requires : goal.put_last-requires
put_last-requires c =
    let count = c.loop-node.invariant.is_row.count in
    own_place c.loop-node.row.items c.place-target.result c.index_mut.result.now (fields c.in-Some.node.value)
    (rw count c.loop-node.invariant.is_row)
    (target c.in-Some.node.value c.deref.result.now c.place-target.result c.len.result
    (length c.loop-node.row.items) c.place-target.ensures.value c.deref.ensures (omega arith))
    (omega arith) c.index_mut.ensures.value

pub loop-node-preserved : goal.loop-node-preserved
loop-node-preserved c =
    rw (with_node-is c.loop-node.row.items c.place-target.result c.index_mut.result.now c.put_last.new.bucket
    (fields c.in-Some.node.value)
    (target c.in-Some.node.value c.deref.result.now c.place-target.result c.len.result
    (length c.loop-node.row.items) c.place-target.ensures.value c.deref.ensures (omega arith))
    (omega arith) c.index_mut.ensures.value c.put_last.ensures)
    (IsSpreading-step c.args.row.now.items c.args.bucket.now c.loop-node.row.items c.loop-node.bucket c.pop.new.self
    (fields c.in-Some.node.value) c.requires.size c.in-Some.ensures.nodes c.in-Some.ensures.place.place
    c.in-Some.ensures.place.size c.in-Some.ensures.in_place c.loop-node.invariant)
