-- A slot of a parker: it is empty, or has a node of its owner with the payload that was put beside it.
use Rattle.std.specs.Prelude.{◌≡◌, ℕ, Box, IfSome, IsNone}
use Rattle.std.specs.declared.alloc.Global.{Global}
use Rattle.lot_base.specs.declared.queue.Node.{Node}
use Rattle.lot_base.specs.declared.thread_parker.LoadedSlot.{LoadedSlot}
use Rattle.lot_base.specs.Node.{fields}
use Rattle.lot_base.specs.NodeFields.{NodeFields}

module _ {L : Type 0} where
  -- the node is that of the thread of this number, and the payload beside it fits it
  pub record IsUnparked (fits : NodeFields → L → Type 0) (number : ℕ) (unparked : Box Node Global × L) : Type 0 where
    pub node : (fields unparked.0.value).number ≡ number
    pub payload : fits (fields unparked.0.value) unparked.1

  module _ {H : Type 0} where
    abbrev pub HasNoNode : LoadedSlot L H → Type 0
    HasNoNode slot = IsNone slot.unparked

    -- the slot is that of the thread of this number, and so is a node that is in it
    pub record IsSlotFor (fits : NodeFields → L → Type 0) (number : ℕ) (slot : LoadedSlot L H) : Type 0 where
      pub owner : slot.owner ≡ number
      pub unparked : IfSome slot.unparked (IsUnparked fits number)
