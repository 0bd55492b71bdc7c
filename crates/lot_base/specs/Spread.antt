-- Nodes that are entered one by one, each behind the waiters of its own key.
use Rattle.std.specs.Prelude.{ℕ, List, ◌∷◌, ◌++◌, []}
use Rattle.lot_base.specs.NodeFields.{NodeFields}
use Rattle.lot_base.specs.Waiting.{with_value}
use Rattle.lot_base.specs.NodeLists.{lists_of}

-- the lists of all keys after one more node: it stands last in the list of its own key
abbrev pub with_entered : (ℕ → List NodeFields) → NodeFields → ℕ → List NodeFields
with_entered lists node = with_value lists node.key (lists node.key ++ node ∷ [])

-- after more of them: each key's own stand behind those that were there, in their order
abbrev pub with_all_entered : (ℕ → List NodeFields) → List NodeFields → ℕ → List NodeFields
with_all_entered lists nodes key = lists key ++ lists_of nodes key
