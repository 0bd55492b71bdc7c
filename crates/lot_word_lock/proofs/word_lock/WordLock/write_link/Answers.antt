use Rattle.std.proofs.Common.{rules, ◌+◌, [], refl}
use mathlib.Core.Option.{none}
use Rattle.atomic_table.specs.Table.{step}
use Rattle.lot_word_lock.specs.declared.word_lock.view.View.TheVariants.{Trying}
use Rattle.lot_word_lock.specs.WordSteps.{LinkTells}
use Rattle.lot_word_lock.proofs.WordWaits.{links_own}
use Rattle.lot_word_lock.proofs.WordKeyLemmas.{at_key}
use Rattle.lot_word_lock.proofs.word_lock.WordLock.write_link.Goals as goal

pub store-requires : goal.store-requires
store-requires g c =
    let fits = g.T.Fits.fits in
    let key = c.args.self.now.table.shared.key in
    let place = c.args.place in
    let new = 1 + c.args.newest in
    let id = c.args.caller.now.seat.id in
    let has = c.requires.has in (
      c.requires.lock.table,
      search rules,
      at_key fits key _ _ id _ (Trying has.1.0 place has.0, []) place (λ _. new)
          (λ _. new) (λ _. LinkTells) (λ n. step n place new 0 none) refl c.requires.lock.carried has.1.1
          (links_own (fits key) _ id has.1.0 place has.0 new c.requires.place),
    )
