use Rattle.std.proofs.Common.{rules, ◌+◌, ◌%◌, ◌==◌, None, refl}
use mathlib.Core.Option.{none}
use prog.Atomic.{either}
use Rattle.atomic_table.specs.Table.{step}
use Rattle.lock_words.specs.StockView.{having}
use Rattle.lock_words.specs.StockSteps.{ReleaseTells}
use Rattle.lock_words.proofs.StockKeys.{at_key}
use Rattle.lock_words.proofs.StockTries.{releases}
use Rattle.lock_words.proofs.stock.Stock.release.Goals as goal

pub compare_exchange-requires : goal.compare_exchange-requires
compare_exchange-requires g c =
    let told = g.M.Tells.told in
    let fits = g.M.Tells.fits in
    let key = c.args.self.now.table.shared.key in
    let word = c.args.word in
    let new = (word + 4) % 18446744073709551616 in
    let holds = c.requires.holds in
    let id = c.args.hand.now.seat.id in (
      c.requires.stock.table,
      search rules,
      at_key told fits key _ 2 id _ (having 1 None, holds.0) 0 (λ x. either (x == word) new x) (λ r. r)
          (λ _. ReleaseTells) (λ n. step n 0 word new none) c.args.self.now.sized.1 c.requires.stock.carried
          holds.2 (releases told (fits key.queue) key.permits key.guards id holds.0 word new holds.1
          c.requires.nobody_to_wake refl),
    )
