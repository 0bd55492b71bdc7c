use Rattle.std.proofs.Common.{refl}
use Rattle.lock_words.specs.declared.stock.Content.TheVariants.{Title}
use Rattle.lot_word_lock.specs.WordKey.{without_key}
use Rattle.lock_words.proofs.StockKeys.{in_front}
use Rattle.lock_words.proofs.stock.Stock.carry.Goals as goal

pub exchange-requires-clause-slot : goal.exchange-requires-clause-slot
exchange-requires-clause-slot g c =
    let took = c.if-not-take_slot.ensures.took refl in
    (Title took.title, in_front (without_key c.take_slot.new.hand.seat.me) _ 1 (Title took.title) _ took.is)
