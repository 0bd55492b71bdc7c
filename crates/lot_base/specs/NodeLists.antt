-- The lists of waiters of all keys as a bucket has them: of nodes, whose keys tell the lists.
use Rattle.std.specs.Prelude.{◌≡◌, ℕ, Bool, false, ◌==◌, min, ◌-◌, ◌^◌, List, map, filter, Option, Some, None}
use Rattle.lot_base.specs.declared.token.UnparkResult.{UnparkResult}
use Rattle.lot_base.specs.declared.token.UnparkToken.{UnparkToken}
use Rattle.lot_base.specs.NodeFields.{NodeFields}
use Rattle.lot_base.specs.Waiting.{with_value, Split}

-- the list of each key: the nodes that wait on it, in order
abbrev pub lists_of : List NodeFields → ℕ → List NodeFields
lists_of nodes key = filter (λ node. node.key == key) nodes

-- the list of the key is this one now, and that of each other key is as before
abbrev pub ChangesOnly : List NodeFields → List NodeFields → ℕ → List NodeFields → Type 0
ChangesOnly old new key list = (k : ℕ) → lists_of new k ≡ with_value (lists_of old) key list k

-- a node that was handed a token
abbrev pub with_token : UnparkToken → NodeFields → NodeFields
with_token token node = record node { unpark_token = token }

-- a node that was moved to another key
abbrev pub with_new_key : ℕ → NodeFields → NodeFields
with_new_key key node = record node { key = key }

-- a split of nodes, where those that are moved have another key
abbrev pub split_to : ℕ → Split NodeFields → Split NodeFields
split_to key split = record split { moved = map (with_new_key key) split.moved }

-- whether a node is that of the thread of this number
abbrev pub has_number : ℕ → NodeFields → Bool
has_number number node = node.number == number

-- whether the thread of a node that was found waits with a timeout
abbrev pub is_timed : Option NodeFields → Bool
is_timed None = false
is_timed (Some node) = node.timed

-- a count as far as a `usize` goes: a bucket alone does not know that its lists are short
abbrev pub saturated : ℕ → ℕ
saturated count = min count (2 ^ 64 - 1)

-- a result with its counts so; the result of an exclusive lot is exact, since its lists are short
abbrev pub with_saturated_counts : UnparkResult → UnparkResult
with_saturated_counts result = record result {
  unparked_threads = saturated result.unparked_threads;
  requeued_threads = saturated result.requeued_threads;
}
