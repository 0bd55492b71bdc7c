use Rattle.std.proofs.Common.{rules, []}
use mathlib.Core.Option.{none}
use Rattle.atomic_table.specs.Table.{step}
use Rattle.lot_word_lock.proofs.WordKeyLemmas.{lift_enters}
use Rattle.lock_words.specs.StockView.{resting}
use Rattle.lock_words.specs.StockSteps.{ArriveTells}
use Rattle.lock_words.proofs.StockKeys.{RuleOf}
use Rattle.lock_words.proofs.StockTries.{arrives}
use Rattle.lock_words.proofs.stock.Stock.arrive.Goals as goal

pub load_new_seat-requires : goal.load_new_seat-requires
load_new_seat-requires g c =
    let told = g.M.Tells.told in
    let fits = g.M.Tells.fits in
    let key = c.args.self.now.table.shared.key in
    let slots = c.args.self.now.table.shared.table_id.slots in (
      search rules,
      lift_enters (RuleOf told fits key) key slots 1 resting (λ _. ArriveTells) (step slots 1 0 0 none)
          (arrives told (fits key.queue) key.permits key.guards slots 1 (resting, [])),
    )
