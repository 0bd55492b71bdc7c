use Rattle.std.proofs.Common.{rules, ◌+◌, ◌*◌, ◌/◌, ◌==◌, [], refl}
use mathlib.Core.Option.{none}
use prog.Atomic.{either}
use Rattle.atomic_table.specs.Table.{step}
use Rattle.lot_word_lock.specs.declared.word_lock.view.View.TheVariants.{Trying}
use Rattle.lot_word_lock.specs.WordSteps.{EnqueueTells}
use Rattle.lot_word_lock.proofs.WordWaits.{enqueues}
use Rattle.lot_word_lock.proofs.WordKeyLemmas.{at_key}
use Rattle.lot_word_lock.proofs.word_lock.WordLock.enqueue.Goals as goal

pub compare_exchange-requires : goal.compare_exchange-requires
compare_exchange-requires g c =
    let fits = g.T.Fits.fits in
    let key = c.args.self.now.table.shared.key in
    let place = c.args.place in
    let word = c.args.word in
    let new = 1 + 2 * place in
    let id = c.args.caller.now.seat.id in
    let linked = c.requires.linked in (
      c.requires.lock.table,
      search rules,
      at_key fits key _ _ id _ (Trying linked.0 place (1 + word / 2), []) 0
          (λ x. either (x == word) new x) (λ r. r) (λ _. EnqueueTells) (λ n. step n 0 word new none) refl c.requires.lock.carried linked.1
          (enqueues (fits key) _ id linked.0 place (1 + word / 2) word new none c.requires.place c.requires.locked
          refl refl),
    )
