-- What the contracts of a gate say.
use Rattle.std.specs.Prelude.{◌≡◌, ℕ, [], None, Some}
use Rattle.lot_history.specs.declared.history.History.{History}
use Rattle.lot_threads.specs.Titled.{EnteredState, IsEnteredIn}
use Rattle.lock_words.specs.Stock.{IsHandOf, HasPermit, seat_of, waits_of}
use Rattle.lock_words.specs.StockView.{having, resting}
use Rattle.lock_words.specs.declared.stock.Hand.{Hand}
use Rattle.lock_words.specs.declared.stock.Stock.{Stock}
use Rattle.parking_lot.specs.Queues.{MayBe}
use Rattle.parking_lot.specs.declared.queue_title.QueueKey.{QueueKey}
use Rattle.parking_lot.specs.declared.queue_title.QueueTitle.{QueueTitle}

module _ {T : Type 0} where
  -- a thread that neither holds a permit nor waits
  pub record Rests (stock : Stock T QueueTitle QueueKey) (hand : Hand T QueueTitle QueueKey) : Type 0 where
    pub of_stock : IsHandOf stock hand
    pub rests : seat_of hand ≡ (resting, [])

  -- one that holds a permit, and does not wait
  pub record Holds (stock : Stock T QueueTitle QueueKey) (hand : Hand T QueueTitle QueueKey) : Type 0 where
    pub of_stock : IsHandOf stock hand
    pub permit : HasPermit stock None hand

  -- one that holds a permit which guards no value, and does not wait
  pub record HoldsBare (stock : Stock T QueueTitle QueueKey) (hand : Hand T QueueTitle QueueKey) : Type 0 where
    pub of_stock : IsHandOf stock hand
    pub permit : seat_of hand ≡ (having 1 None, [])

  -- one that holds a permit, and may still wait as this number
  pub record HoldsAs (stock : Stock T QueueTitle QueueKey) (number : ℕ) (hand : Hand T QueueTitle QueueKey) : Type 0 where
    pub of_stock : IsHandOf stock hand
    pub permit : HasPermit stock (waits_of hand) hand
    pub as_number : MayBe number (waits_of hand)

  -- one that holds none, and may wait as this number
  pub record MayWait (stock : Stock T QueueTitle QueueKey) (number : ℕ) (hand : Hand T QueueTitle QueueKey) : Type 0 where
    pub of_stock : IsHandOf stock hand
    pub holds_none : seat_of hand ≡ (having 0 (waits_of hand), [])
    pub as_number : MayBe number (waits_of hand)

  -- one that entered the list of the key as this thread
  pub record IsInList (history : History) (key : ℕ) (stock : Stock T QueueTitle QueueKey) (entered : EnteredState)
      (hand : Hand T QueueTitle QueueKey) : Type 0 where
    pub own : IsEnteredIn history entered
    pub on_key : entered.key ≡ key
    pub of_stock : IsHandOf stock hand
    pub waits : seat_of hand ≡ (having 0 (Some entered.number), [])
