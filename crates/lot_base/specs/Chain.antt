-- The nodes of a queue: where they lie, what the queue owns of them, and what a `&` to it does.
use Rattle.std.specs.Prelude.{◌≡◌, ℕ, List, [], ◌∷◌, map}
use Rattle.std.specs.Coded.{Coded-set}
use Rattle.std.specs.Box.Ownership.{box_owns}
use Rattle.std.specs.contracts.impls.GlobalAllocator.TheImpl.{ghosts}
use base.Fml.{Lft, Fml, ftrue, fsep}
use denote.RawPtr.{Ptr, block_ptr, null_ptr, coded_ptr}
use denote.Sharing.{nothing, beside}
use denote.Struct.Lending.{lent_at}
use Rattle.lot_base.specs.declared.queue.Node.{Node}
use Rattle.lot_base.specs.contracts.queue.Node.{the_row}
use Rattle.lot_base.specs.NodeFields.{NodeFields}

-- a node, with the number of the block that its box is
abbrev pub Placed : Type 0
Placed = ℕ × NodeFields

-- the nodes without their places
abbrev pub all_fields : List Placed → List NodeFields
all_fields = map (λ n. n.1)

-- where the first node lies, or `end` if there is none
abbrev pub first_place : List Placed → Ptr → Ptr
first_place [] end = end
first_place (n ∷ ns) end = block_ptr n.0 0

-- where the last node lies, or `start` if there is none
abbrev pub last_place : Ptr → List Placed → Ptr
last_place start [] = start
last_place start (n ∷ ns) = last_place (block_ptr n.0 0) ns

-- p leads to the first of the nodes, or is null if there is none
abbrev pub LeadsTo : Ptr → List Placed → Type 0
LeadsTo p ns = p ≡ first_place ns null_ptr

pub LeadsTo-prop : (p : Ptr) (ns : List Placed) → IsProp (LeadsTo p ns)
LeadsTo-prop p ns = Coded-set coded_ptr p (first_place ns null_ptr)

-- head leads to the first and tail to the last of the nodes, and both are null if there is none
abbrev pub IsChain : Ptr → Ptr → List Placed → Type 0
IsChain head tail ns = LeadsTo head ns × (tail ≡ last_place null_ptr ns)

pub IsChain-prop : (head tail : Ptr) (ns : List Placed) → IsProp (IsChain head tail ns)
IsChain-prop head tail ns = λ p q i.
    (LeadsTo-prop head ns p.0 q.0 i, Coded-set coded_ptr tail (last_place null_ptr ns) p.1 q.1 i)

-- the node of these fields and this link
abbrev pub node_of : NodeFields → Ptr → Node
node_of f link = record {
  number = f.number;
  key = f.key;
  park_token = f.park_token;
  unpark_token = f.unpark_token;
  timed = f.timed;
  link = link;
  alloc = record { memory = record { seal = tt } };
}

-- the box of such a node
abbrev pub node_owns : Placed → Ptr → Fml
node_owns n link = box_owns (ghosts.dealloc_token (record { memory = record { seal = tt } })) the_row
    (block_ptr n.0 0) (node_of n.1 link)

-- the boxes of the nodes, each linked to the next, and the last one to `end`
abbrev pub nodes_own : List Placed → Ptr → Fml
nodes_own [] end = ftrue
nodes_own (n ∷ ns) end = fsep (node_owns n (first_place ns end)) (nodes_own ns end)

-- a `&` to each of them
abbrev pub nodes_lent : List Placed → Ptr → Lft → Fml
nodes_lent [] end = nothing
nodes_lent (n ∷ ns) end = beside (lent_at the_row (block_ptr n.0 0) (node_of n.1 (first_place ns end)))
    (nodes_lent ns end)
