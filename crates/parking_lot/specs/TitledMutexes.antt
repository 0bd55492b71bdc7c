-- What the contracts of a titled mutex say.
use Rattle.std.specs.Prelude.{◌≡◌, ◌∷◌, [], None}
use Rattle.lock_words.specs.Stock.{IsHandOf, seat_of}
use Rattle.lock_words.specs.StockView.{having}
use Rattle.lock_words.specs.declared.stock.Content.TheVariants.{Out}
use Rattle.lock_words.specs.declared.stock.Hand.{Hand}
use Rattle.lock_words.specs.declared.stock.Stock.{Stock}
use Rattle.parking_lot.specs.declared.queue_title.QueueKey.{QueueKey}
use Rattle.parking_lot.specs.declared.queue_title.QueueTitle.{QueueTitle}

-- a thread that holds the mutex, and whose guard has the value
pub record HoldsEmpty {T : Type 0} (stock : Stock T QueueTitle QueueKey) (hand : Hand T QueueTitle QueueKey) : Type 0 where
  pub of_stock : IsHandOf stock hand
  pub empty : seat_of hand ≡ (having 1 None, (0, Out) ∷ [])
