use Rattle.std.proofs.Common.{rules, ◌+◌, ◌==◌, [], refl}
use mathlib.Core.Option.{none}
use prog.Atomic.{either}
use Rattle.atomic_table.specs.Table.{step}
use Rattle.lot_word_lock.specs.declared.word_lock.view.View.TheVariants.{Trying}
use Rattle.lot_word_lock.specs.WordSteps.{AskTells}
use Rattle.lot_word_lock.proofs.WordTries.{asks}
use Rattle.lot_word_lock.proofs.WordKeyLemmas.{at_key}
use Rattle.lot_word_lock.proofs.word_lock.WordLock.ask_for_place.Goals as goal

pub compare_exchange-requires : goal.compare_exchange-requires
compare_exchange-requires g c =
    let fits = g.T.Fits.fits in
    let key = c.args.self.now.table.shared.key in
    let place = c.args.place in
    let id = c.args.caller.now.seat.id in
    let tries = c.requires.tries in (
      c.requires.lock.table,
      search rules,
      at_key fits key _ _ id _ (Trying tries.0 0 0, []) (place + 4)
          (λ x. either (x == 1) 2 x) (λ r. r) (λ _. AskTells) (λ n. step n (place + 4) 1 2 none) refl c.requires.lock.carried tries.1
          (asks (fits key) _ id tries.0 place none c.requires.place),
    )
