-- How a row of buckets represents the lists of waiters.
use Rattle.std.specs.Prelude.{◌≡◌, ℕ, ◌<◌, List, map, length, slice_index_or, slice_set, All, ◌∷◌, ◌++◌, []}
use Rattle.lot_base.specs.BucketState.{BucketState}
use Rattle.lot_base.specs.NodeFields.{NodeFields}
use Rattle.lot_base.specs.Place.{place_of}
use Rattle.lot_base.specs.NodeLists.{lists_of}
use Rattle.lot_machine.specs.Machine.{Waiter}

-- the waiter of a node
abbrev pub waiter_of : NodeFields → Waiter
waiter_of node = record { number = node.number; park_token = node.park_token; timed = node.timed }

-- the bucket at a place of the row
abbrev pub bucket_at : List BucketState → ℕ → BucketState
bucket_at row place = slice_index_or row place (record { place = place; size = 0; nodes = [] })

-- the row, a node standing last in the bucket of its place
abbrev pub with_node : List BucketState → NodeFields → List BucketState
with_node row node =
    let place = place_of node.key (length row) in
    slice_set row place (record (bucket_at row place) { nodes = (bucket_at row place).nodes ++ node ∷ [] })

-- the nodes of a key: those in the bucket of its place, in order
abbrev pub nodes_in : List BucketState → ℕ → List NodeFields
nodes_in row key = lists_of (bucket_at row (place_of key (length row))).nodes key

-- and its waiters
abbrev pub waiters_in : List BucketState → ℕ → List Waiter
waiters_in row key = map waiter_of (nodes_in row key)

-- bucket i holds only nodes whose key has place i, and the nodes of each key are its list
pub record Represents (row : List BucketState) (lists : ℕ → List Waiter) : Type 0 where
  pub in_place : (i : ℕ) → i < length row → All (λ node. place_of node.key (length row) ≡ i) (bucket_at row i).nodes
  pub in_order : (key : ℕ) → lists key ≡ waiters_in row key
