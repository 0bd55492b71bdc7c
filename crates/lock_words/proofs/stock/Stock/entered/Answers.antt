use Rattle.std.proofs.Common.{rules, [], ◌∷◌, Some, refl}
use mathlib.Core.Option.{none}
use Rattle.atomic_table.specs.Table.{step}
use Rattle.lot_word_lock.specs.WordKey.{without_key}
use Rattle.lock_words.specs.declared.stock.Content.TheVariants.{Out, Title}
use Rattle.lock_words.specs.Stock.{numbers_of}
use Rattle.lock_words.specs.StockView.{view}
use Rattle.lock_words.specs.StockSteps.{EnteredTells}
use Rattle.lock_words.proofs.StockKeys.{at_key, put_in_front}
use Rattle.lock_words.proofs.StockTitles.{enters, entered_tells}
use Rattle.lock_words.proofs.stock.Stock.entered.Goals as goal

pub store-requires : goal.store-requires
store-requires g c =
    let told = g.M.Tells.told in
    let fits = g.M.Tells.fits in
    let key = c.args.self.now.table.shared.key in
    let id = c.put_title.new.hand.seat.id in
    let title = c.args.title in
    let me = without_key c.args.hand.now.seat.me in
    let numbers = numbers_of c.args.hand.now in (
      c.put_title.ensures.stock.table,
      search rules,
      at_key told fits key _ 2 id _ (view 0 me.0.waits (Some numbers) 0, (1, Title title) ∷ []) 0 (λ _. 1) (λ _. 1)
          (λ _. EnteredTells told) (λ n. step n 0 1 0 none) c.args.self.now.sized.1 c.put_title.ensures.stock.carried
          (put_in_front me _ _ 1 Out (Title title) _ c.put_title.ensures.back c.requires.carries)
          (enters told (fits key.queue) key.permits key.guards id 0 me.0.waits numbers c.args.number title []
          (EnteredTells told (step 1 0 1 0 none) (view 0 me.0.waits (Some numbers) 0, (1, Title title) ∷ []) 1)
          c.requires.waits c.requires.new_one c.requires.fits c.requires.tells refl),
    )

pub returns-clause-waits : goal.returns-clause-waits
returns-clause-waits g c =
    let me = without_key c.args.hand.now.seat.me in
    let back = put_in_front me _ _ 1 Out (Title c.args.title) _ c.put_title.ensures.back c.requires.carries in
    entered_tells g.M.Tells.told _ _ _ _ (numbers_of c.args.hand.now) c.args.number 0 c.store.ensures.2.told back refl
    c.requires.tells
