-- What contracts see of a node.
use Rattle.std.specs.Prelude.{ℕ, false, List, [], ◌∷◌, Option, Some, None, Box}
use Rattle.std.specs.declared.alloc.Global.{Global}
use Rattle.lot_base.specs.declared.queue.Node.{Node}
use Rattle.lot_base.specs.NodeFields.{NodeFields}

-- the fields of a node
abbrev pub fields : Node → NodeFields
fields node =
    record {
      number = node.number;
      key = node.key;
      park_token = node.park_token;
      unpark_token = node.unpark_token;
      timed = node.timed;
    }

-- a node that waits nowhere yet
abbrev pub new_node : ℕ → NodeFields
new_node number =
    record { number = number; key = 0; park_token = record { 0 = 0 }; unpark_token = record { 0 = 0 }; timed = false }

-- the node that a call may have given
abbrev pub option_nodes : Option (Box Node Global) → List NodeFields
option_nodes None = []
option_nodes (Some held) = fields held.value ∷ []
