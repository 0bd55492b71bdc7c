use Rattle.std.proofs.Common.{rules, ◌∷◌, None, Some}
use mathlib.Core.Option.{none}
use Rattle.atomic_table.specs.Table.{step}
use Rattle.lot_word_lock.specs.WordKey.{without_key}
use Rattle.lock_words.specs.declared.stock.Content.TheVariants.{Out, Title}
use Rattle.lock_words.specs.Stock.{numbers_of}
use Rattle.lock_words.specs.StockView.{view}
use Rattle.lock_words.specs.StockSteps.{ReleasedTells}
use Rattle.lock_words.proofs.StockKeys.{at_key, put_in_front}
use Rattle.lock_words.proofs.StockTitles.{releases_all}
use Rattle.lock_words.proofs.stock.Stock.released.Goals as goal

pub store-requires : goal.store-requires
store-requires g c =
    let told = g.M.Tells.told in
    let fits = g.M.Tells.fits in
    let key = c.args.self.now.table.shared.key in
    let id = c.put_title.new.hand.seat.id in
    let title = c.args.title in
    let me = without_key c.args.hand.now.seat.me in
    let numbers = numbers_of c.args.hand.now in
    let bit = c.word_of.ensures in
    let new = c.word_of.result in
    let holds = c.requires.carries in (
      c.put_title.ensures.stock.table,
      search rules,
      at_key told fits key _ 2 id _ (view 1 None (Some numbers) 0, (1, Title title) ∷ holds.0) 0
          (λ _. new) (λ _. new) (λ _. ReleasedTells) (λ n. step n 0 new 0 none) c.args.self.now.sized.1
          c.put_title.ensures.stock.carried
          (put_in_front me _ _ 1 Out (Title title) _ c.put_title.ensures.back holds.2)
          (releases_all told (fits key.queue) key.permits key.guards id numbers title holds.0 bit.0 new holds.1 bit.1 bit.2
          (λ e. c.requires.more (bit.3 e)) c.requires.fits c.requires.others),
    )
