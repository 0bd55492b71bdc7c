use Rattle.std.proofs.Common.{rules, ◌-◌, ◌==◌, [], arith}
use mathlib.Core.Option.{none}
use prog.Atomic.{either}
use Rattle.atomic_table.specs.Table.{step}
use Rattle.lock_words.specs.StockView.{having}
use Rattle.lock_words.specs.StockSteps.{AcquireTells}
use Rattle.lock_words.proofs.StockKeys.{at_key}
use Rattle.lock_words.proofs.StockTries.{acquires}
use Rattle.lock_words.proofs.stock.Stock.acquire.Goals as goal

pub compare_exchange-requires : goal.compare_exchange-requires
compare_exchange-requires g c =
    let told = g.M.Tells.told in
    let fits = g.M.Tells.fits in
    let key = c.args.self.now.table.shared.key in
    let word = c.args.word in
    let free = c.requires.free in
    let id = c.args.hand.now.seat.id in
    let waits = c.args.hand.now.seat.me.0.1.waits in (
      c.requires.stock.table,
      search rules,
      at_key told fits key _ 2 id _ (having 0 waits, []) 0 (λ x. either (x == word) (word - 4) x) (λ r. r)
          (λ k. AcquireTells k.guards) (λ n. step n 0 word (word - 4) none) c.args.self.now.sized.1 c.requires.stock.carried
          c.requires.without
          (acquires told (fits key.queue) key.permits key.guards id waits word (word - 4) free c.requires.home (omega arith)),
    )
