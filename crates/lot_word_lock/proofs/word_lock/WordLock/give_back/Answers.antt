use Rattle.std.proofs.Common.{rules, ◌+◌, [], refl}
use mathlib.Core.Option.{none}
use Rattle.atomic_table.specs.Table.{step}
use Rattle.lot_word_lock.specs.declared.word_lock.view.View.TheVariants.{Trying}
use Rattle.lot_word_lock.specs.WordSteps.{GiveBackTells}
use Rattle.lot_word_lock.proofs.WordTries.{gives_back}
use Rattle.lot_word_lock.proofs.WordKeyLemmas.{at_key}
use Rattle.lot_word_lock.proofs.word_lock.WordLock.give_back.Goals as goal

pub swap-mark-requires : goal.swap-mark-requires
swap-mark-requires g c =
    let fits = g.T.Fits.fits in
    let key = c.args.self.now.table.shared.key in
    let place = c.args.place in
    let id = c.args.caller.now.seat.id in
    let has = c.requires.has in (
      c.requires.lock.table,
      search rules,
      at_key fits key _ _ id _ (Trying has.1.0 place has.0, []) (place + 4) (λ _. 0)
          (λ r. r) (λ _. GiveBackTells) (λ n. step n (place + 4) 0 0 none) refl c.requires.lock.carried has.1.1
          (gives_back (fits key) _ id has.1.0 place has.0 c.requires.place),
    )
