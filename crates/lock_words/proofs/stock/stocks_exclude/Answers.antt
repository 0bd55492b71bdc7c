use Rattle.lot_word_lock.specs.WordKey.{without_keys}
use Rattle.lock_words.proofs.StockHolds.{excludes}
use Rattle.lock_words.proofs.stock.stocks_exclude.Goals as goal

pub returns : goal.returns
returns g c = λ key state ruled guards.
    excludes g.M.Tells.told (g.M.Tells.fits key.queue) key.permits key.guards (without_keys state) ruled.rest guards
