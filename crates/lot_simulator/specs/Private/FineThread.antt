-- Where the node of a thread of an interleaved lot is, and what its slot and its thread tell.
use Rattle.std.specs.Prelude.{◌≡◌, ◌≤◌, ℕ, Option, Some, None, List, ◌∷◌, [], length}
use Rattle.lot_base.specs.NodeFields.{NodeFields}
use Rattle.lot_base.specs.SlotState.{SlotState}
use Rattle.lot_base.specs.declared.token.UnparkToken.{UnparkToken}
use Rattle.lot_simulator.specs.LotState.{ThreadState}
use Rattle.lot_machine.specs.declared.status.Status.{Status}
use Rattle.lot_machine.specs.declared.status.Status.TheVariants.{Free, Running, Waiting, Late, Taken}
use Rattle.lot_simulator.specs.FineLotState.{FineThreadState}

-- the token of the first node
abbrev pub first_token : List NodeFields → Option UnparkToken
first_token [] = None
first_token (node ∷ _) = Some node.unpark_token

-- only the slot of a thread that waits or is late may have a node, and only a late thread may have read its key; none is taken
abbrev pub HasNodesOf : Status → Option ℕ → List NodeFields → Type 0
HasNodesOf Free key_read nodes = (key_read ≡ None) × (nodes ≡ [])
HasNodesOf Running key_read nodes = (key_read ≡ None) × (nodes ≡ [])
HasNodesOf (Waiting _) key_read nodes = (key_read ≡ None) × (length nodes ≤ 1)
HasNodesOf Late _ nodes = length nodes ≤ 1
HasNodesOf (Taken _) _ _ = ⊥

-- the slot is the thread's, and has what a thread of its status may have there
abbrev pub MayHaveItsNode : ThreadState → Option ℕ → SlotState → Type 0
MayHaveItsNode thread key_read slot = (slot.owner ≡ thread.number) × HasNodesOf thread.status key_read slot.nodes

-- a thread in another state, with other records, and with its slot empty
abbrev pub with_state : FineThreadState → Status → Option ℕ → FineThreadState
with_state t status key_read = record t { thread = record t.thread { status = status }; key_read = key_read }

abbrev pub with_recorded : FineThreadState → List ℕ → FineThreadState
with_recorded t records = record t { thread = record t.thread { records = records } }

abbrev pub with_empty_slot : FineThreadState → FineThreadState
with_empty_slot t = record t { slot = None }
