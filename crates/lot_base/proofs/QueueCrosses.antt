-- A queue may cross threads, since its nodes may.
use mathlib.Core.List.{List, [], ◌∷◌}
use base.Fraction.{full_share}
use base.Shift.{Keyless}
use denote.Builtin.{RawPtr}
use denote.Exit.{Exit, unchanged, leaves, hidden, under}
use denote.Param.Send.{IsSend, IsSync, AllSend, Common, Quiet, part_keyless, owning_send, struct_send, struct_sync}
use denote.Param.Send.{view_send, view_sync, sendable}
use denote.RawPtr.{Ptr, null_ptr}
use denote.Struct.Owning.{shape, fields, to}
use denote.Struct.Struct.{exits_of}
use Rattle.std.proofs.Crossing.{frees}
use Rattle.lot_base.specs.Chain.{Placed, first_place, node_of, nodes_own, nodes_lent}
use Rattle.lot_base.specs.contracts.queue.Node.{the_row as Node}
use Rattle.lot_base.specs.contracts.queue.Queue as Q
use Rattle.lot_base.specs.contracts.queue.Queue.TheInside as I
use Rattle.lot_base.proofs.queue.Node.TheSendSync as node

pointer_send : IsSend RawPtr
pointer_send = search sendable

pointer_sync : IsSync RawPtr
pointer_sync = search sendable

quiet : {D X : Type 0} (f : D → X) (e : Exit X) → Quiet e → Quiet (hidden (under f e))
quiet f unchanged q = λ x w. tt
quiet f (leaves L l S s r₀) q = λ d. q (f d)

nodes_own-Keyless : (ns : List Placed) (end : Ptr) → Keyless (nodes_own ns end)
nodes_own-Keyless [] end = tt
nodes_own-Keyless (n ∷ ns) end = (
  (
    part_keyless Node node.the_send full_share (node_of n.1
        (first_place ns end)) n.0 0,
    frees.frees _ _ _,
  ),
  nodes_own-Keyless ns end,
)

nodes_lent-Common : (ns : List Placed) (end : Ptr) → Common (nodes_lent ns end)
nodes_lent-Common [] end κ = tt
nodes_lent-Common (n ∷ ns) end κ = (
  (
    tt,
    node.the_sync.shared (node_of n.1
        (first_place ns end)) n.0 0 κ,
  ),
  nodes_lent-Common ns end κ,
)

Inside-send : IsSend I.the_row
Inside-send =
    let all : AllSend (fields I.the_type) = (pointer_send, (pointer_send, tt)) in
    owning_send I.the_type all (λ d. nodes_own-Keyless d.nodes null_ptr) (λ k. quiet (to I.the_type)
    (exits_of k (fields I.the_type)) ((struct_send (shape I.the_type) all).leaving k))

Inside-sync : IsSync I.the_row
Inside-sync = record {
  shared = λ d b o κ. (
    (struct_sync (shape I.the_type) (
      pointer_sync,
      (pointer_sync, tt),
    )).shared (to I.the_type d) b o κ,
    nodes_lent-Common d.nodes null_ptr κ,
  );
}

pub Queue-send : IsSend Q.the_row
Queue-send = view_send _ _ _ _ _ Inside-send

pub Queue-sync : IsSync Q.the_row
Queue-sync = view_sync _ _ _ _ _ Inside-sync
