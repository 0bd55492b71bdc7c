-- A stock and its hands as contracts see them.
use Rattle.std.specs.Prelude.{◌≡◌, ℕ, false, List, [], ◌∷◌, Option, None, Some, Box}
use Rattle.std.specs.declared.alloc.Global.{Global}
use Rattle.atomic_table.specs.Table.{Me, rest}
use Rattle.lot_word_lock.specs.WordKey.{without_key}
use Rattle.lock_words.specs.StockRule.{Kept}
use Rattle.lock_words.specs.StockView.{view, having}
use Rattle.lock_words.specs.declared.stock.Content.{Content}
use Rattle.lock_words.specs.declared.stock.Content.TheVariants.{Out, Value}
use Rattle.lock_words.specs.declared.stock.Hand.{Hand}
use Rattle.lock_words.specs.declared.stock.Stock.{Stock}
use Rattle.lock_words.specs.declared.stock.Supply.{Supply}
use Rattle.lock_words.specs.declared.stock.view.View.{View}

abbrev pub numbers_in : Option (List ℕ) → List ℕ
numbers_in None = []
numbers_in (Some numbers) = numbers

module _ {T M : Type 0} where
  -- a thread with this view and these slots, once it has taken the title, which told these numbers, out of slot 1 while
  -- so many permits were free
  abbrev pub carrying : Me (Content T M) View → List ℕ → ℕ → Me (Content T M) View
  carrying me numbers aside = (view me.0.holds me.0.waits (Some numbers) aside, (1, Out) ∷ me.1)

  module _ {K : Type 0} where
    -- a stock of this supply can be made with this in slot 0
    abbrev pub MayOpenWith : Supply K → Content T M → Type 0
    MayOpenWith supply (Value value) = supply.permits ≡ 1
    MayOpenWith supply content = supply.guards ≡ false

    -- what the stock was made with: the key of its queue, how many permits there are, and whether they guard a value
    abbrev pub supply_of : Stock T M K → Supply K
    supply_of stock = stock.table.shared.key

    -- the hand is one of this stock, and carries its key
    pub record IsHandOf (stock : Stock T M K) (hand : Hand T M K) : Type 0 where
      pub table : hand.seat.table_id ≡ stock.table.shared.table_id
      pub carried : hand.seat.me.0.0 ≡ supply_of stock

    -- what the thread knows, and the slots that are out with it, last taken first, each with what is in it
    abbrev pub seat_of : Hand T M K → Me (Content T M) View
    seat_of hand = without_key hand.seat.me

    abbrev pub holds_of : Hand T M K → ℕ
    holds_of hand = (seat_of hand).0.holds

    abbrev pub waits_of : Hand T M K → Option ℕ
    waits_of hand = (seat_of hand).0.waits

    -- the numbers that the title told when the thread took it, and the permits that were free then
    abbrev pub numbers_of : Hand T M K → List ℕ
    numbers_of hand = numbers_in (seat_of hand).0.carries

    abbrev pub aside_of : Hand T M K → ℕ
    aside_of hand = (seat_of hand).0.aside

    -- the thread holds a permit, with its value if it guards one, and waits as this
    abbrev pub HasPermit : Stock T M K → Option ℕ → Hand T M K → Type 0
    HasPermit stock waits hand = (slots : List (ℕ × Content T M)) × Kept (supply_of stock).guards slots
        × (seat_of hand ≡ (having 1 waits, slots))

    -- and it has taken the title since, while no permit was free
    abbrev pub HasPermitAndTitle : Stock T M K → Hand T M K → Type 0
    HasPermitAndTitle stock hand = (slots : List (ℕ × Content T M)) × Kept (supply_of stock).guards slots
        × (seat_of hand ≡ carrying (having 1 None, slots) (numbers_of hand) 0)

    -- the thread does not carry the title
    abbrev pub IsWithout : Hand T M K → Type 0
    IsWithout hand = (seat_of hand).0 ≡ having (holds_of hand) (waits_of hand)

    -- the thread carries the title, and took no slot since
    abbrev pub IsCarrying : Hand T M K → Type 0
    IsCarrying hand = seat_of hand ≡ carrying ((seat_of hand).0, rest (seat_of hand).1) (numbers_of hand) (aside_of hand)

    -- what the thread has where this lies in the slot that it took last
    abbrev pub with_content : Hand T M K → ℕ → Content T M → Me (Content T M) View
    with_content hand slot content = ((seat_of hand).0, (slot, content) ∷ rest (seat_of hand).1)

    -- the slot that the thread took last is this one
    abbrev pub HasSlot : ℕ → Hand T M K → Type 0
    HasSlot slot hand = (content : Content T M) × (seat_of hand ≡ with_content hand slot content)

    -- it is slot 0, and the value is in it
    abbrev pub HasValue : Hand T M K → Type 0
    HasValue hand = (value : Box T Global) × (seat_of hand ≡ with_content hand 0 (Value value))

    -- it is this one, and empty
    abbrev pub HasEmptySlot : ℕ → Hand T M K → Type 0
    HasEmptySlot slot hand = seat_of hand ≡ with_content hand slot Out
