use Rattle.std.proofs.Common.{rules, ℕ, ◌+◌, ◌*◌, ◌∷◌, Some, refl, sym, ap, ◌∙◌}
use mathlib.Core.Option.{none}
use Rattle.atomic_table.specs.Table.{step, rest}
use Rattle.lot_word_lock.specs.WordKey.{without_key}
use Rattle.lock_words.specs.declared.stock.Content.TheVariants.{Out, Title}
use Rattle.lock_words.specs.Stock.{numbers_of, aside_of}
use Rattle.lock_words.specs.StockView.{view}
use Rattle.lock_words.specs.StockSteps.{ReturnedTells}
use Rattle.lock_words.proofs.StockKeys.{at_key, put_in_front}
use Rattle.lock_words.proofs.StockTitles.{returns}
use Rattle.lock_words.proofs.stock.Stock.returned.Goals as goal

pub store-requires : goal.store-requires
store-requires g c =
    let told = g.M.Tells.told in
    let fits = g.M.Tells.fits in
    let key = c.args.self.now.table.shared.key in
    let id = c.put_title.new.hand.seat.id in
    let title = c.args.title in
    let me = without_key c.args.hand.now.seat.me in
    let numbers = numbers_of c.args.hand.now in
    let aside = aside_of c.args.hand.now in
    let bit = c.word_of.ensures in
    let new = c.word_of.result in (
      c.put_title.ensures.stock.table,
      search rules,
      at_key told fits key _ 2 id _ (view me.0.holds me.0.waits (Some numbers) aside, (1, Title title) ∷ rest me.1) 0
          (λ _. new) (λ _. new) (λ _. ReturnedTells) (λ n. step n 0 new 0 none) c.args.self.now.sized.1
          c.put_title.ensures.stock.carried
          (put_in_front me _ _ 1 Out (Title title) _ c.put_title.ensures.back c.requires.carries)
          (returns told (fits key.queue) key.permits key.guards id me.0.holds me.0.waits numbers aside title (rest me.1) bit.0 new
          (ReturnedTells (step 2 0 new 0 none)
          (view me.0.holds me.0.waits (Some numbers) aside, (1, Title title) ∷ rest me.1) new)
          (bit.1 ∙ ap (λ (n : ℕ). 4 * n + bit.0) (sym c.requires.found)) bit.2 (λ e. c.requires.more (bit.3 e))
          c.requires.fits c.requires.others refl),
    )
