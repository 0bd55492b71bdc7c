use Rattle.std.proofs.Common.{rules, ◌∷◌, [], refl}
use mathlib.Core.Option.{none}
use Rattle.atomic_table.specs.Table.{step}
use Rattle.lot_word_lock.specs.declared.word_lock.view.View.TheVariants.{Holding}
use Rattle.lot_word_lock.specs.WordKey.{without_key}
use Rattle.lot_word_lock.specs.WordSteps.{CutTells}
use Rattle.lot_word_lock.proofs.WordHolds.{cuts}
use Rattle.lot_word_lock.proofs.WordKeeps.{seat_is}
use Rattle.lot_word_lock.proofs.WordKeyLemmas.{at_key}
use Rattle.lot_word_lock.proofs.word_lock.WordLock.cut.Goals as goal

pub store-requires : goal.store-requires
store-requires g c =
    let fits = g.T.Fits.fits in
    let key = c.args.self.now.table.shared.key in
    let place = c.args.place in
    let id = c.args.caller.now.seat.id in
    let me = without_key c.args.caller.now.seat.me in
    let holds = c.requires.holds in (
      c.requires.lock.table,
      search rules,
      at_key fits key _ _ id _ (Holding (place ∷ holds.0 ∷ []) [], me.1) place
          (λ _. 1) (λ _. 1) (λ _. CutTells) (λ n. step n place 1 0 none) refl c.requires.lock.carried (seat_is me _ _ holds.1 refl)
          (cuts (fits key) _ id place holds.0 me.1),
    )
