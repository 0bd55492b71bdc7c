use Rattle.std.proofs.Common.{rules, []}
use mathlib.Core.Option.{none}
use Rattle.atomic_table.specs.Table.{step}
use Rattle.lot_word_lock.specs.WordView.{resting}
use Rattle.lot_word_lock.specs.WordRule.{Orderly}
use Rattle.lot_word_lock.specs.WordSteps.{ArriveTells}
use Rattle.lot_word_lock.proofs.WordTries.{arrives}
use Rattle.lot_word_lock.proofs.WordKeyLemmas.{lift_enters}
use Rattle.lot_word_lock.proofs.word_lock.WordLock.arrive.Goals as goal

pub load_new_seat-requires : goal.load_new_seat-requires
load_new_seat-requires g c =
    let fits = g.T.Fits.fits in
    let key = c.args.self.now.table.shared.key in
    let slots = c.args.self.now.table.shared.table_id.slots in (
      search rules,
      lift_enters (λ k. Orderly (fits k)) key slots 16 resting (λ _. ArriveTells) (step slots 16 0 0 none)
          (arrives (fits key) slots 16 (resting, [])),
    )
