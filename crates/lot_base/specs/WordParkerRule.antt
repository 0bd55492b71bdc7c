-- The rule of a parker of one word, which its table keeps between any two steps, and what its steps tell. The table has
-- 15 words, of which the one of index 7 is used, and the parker's key as its key, which each view begins as. That it
-- has one slot the type `WordParker` keeps. The word is 0 with an empty slot and 3 with a full one where the owner is
-- awake, 2 and 4 where it may sleep, and 1 while somebody works on the slot.
use Rattle.std.specs.Prelude.{◌≡◌, ◌≢◌, ◌⊎◌, ◌↔◌, ℕ, ◌<◌, [], ◌∷◌, length, slice_index}
use mathlib.Core.Option.{some}
use lib.ListN.{get_elem?}
use Rattle.atomic_table.specs.Table.{State, Me, Step}
use Rattle.lot_base.specs.declared.thread_parker.LoadedSlot.{LoadedSlot}
use Rattle.lot_base.specs.declared.thread_parker.ParkerKey.{ParkerKey}
use Rattle.lot_base.specs.Loaded.{HasNoNode, IsSlotFor}
use Rattle.lot_base.specs.NodeFields.{NodeFields}

-- the word while somebody works on the slot
abbrev pub busy : ℕ
busy = 1

-- the words that tell of an owner that sleeps, or may sleep: with an empty slot, and with a full one
abbrev pub MaySleep : ℕ → Type 0
MaySleep word = (word ≡ 2) ⊎ (word ≡ 4)

module _ {L H : Type 0} where
  -- the slot is out with the seat, and this holds of it
  abbrev pub HasSlot : Me (LoadedSlot L H) (ParkerKey H) → (LoadedSlot L H → Type 0) → Type 0
  HasSlot me fact = (slot : LoadedSlot L H) × (me.1 ≡ (0, slot) ∷ []) × fact slot

  -- a step that tells nothing
  abbrev pub Untold : Step (LoadedSlot L H) → Me (LoadedSlot L H) (ParkerKey H) → ℕ → Me (LoadedSlot L H) (ParkerKey H) → Type 0
  Untold st m r n = Unit {0}

-- by what it means that a payload fits
module _ {L H : Type 0} (fits : H → NodeFields → L → Type 0) where
  -- the slot is one of this key, and it is empty exactly if the word is one of the first three, of five
  pub record Tells (key : ParkerKey H) (word : ℕ) (slot : LoadedSlot L H) : Type 0 where
    pub owned : IsSlotFor (fits key.home) key.number slot
    pub empty : HasNoNode slot ↔ (word < 3)
    pub known : word < 5

  -- while nobody works on the slot, it is at home and the word tells of it
  pub record ParkerOrderly (key : ParkerKey H) (s : State (LoadedSlot L H) (ParkerKey H)) : Type 0 where
    pub long : length s.words ≡ 15
    pub home : slice_index s.words 7 ≢ busy →
        (slot : LoadedSlot L H) × (get_elem? s.homes 0 ≡ some (some slot)) × Tells key (slice_index s.words 7) slot

  -- a swap: if nobody worked on the slot, the seat has it now, and the word that was found tells of it
  abbrev pub OpenTells : Step (LoadedSlot L H) → Me (LoadedSlot L H) (ParkerKey H) → ℕ → Me (LoadedSlot L H) (ParkerKey H)
      → Type 0
  OpenTells st m r n = r ≢ busy → HasSlot n (Tells m.0 r)
