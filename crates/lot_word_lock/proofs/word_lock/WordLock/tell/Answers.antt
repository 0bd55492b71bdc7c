use Rattle.std.proofs.Common.{rules, ◌∷◌, [], refl}
use mathlib.Core.Option.{none}
use Rattle.atomic_table.specs.Table.{step}
use Rattle.lot_word_lock.specs.declared.word_lock.view.View.TheVariants.{Leaving}
use Rattle.lot_word_lock.specs.WordSteps.{TellTells}
use Rattle.lot_word_lock.proofs.WordHolds.{tells}
use Rattle.lot_word_lock.proofs.WordKeyLemmas.{at_key}
use Rattle.lot_word_lock.proofs.word_lock.WordLock.tell.Goals as goal

pub store-requires : goal.store-requires
store-requires g c =
    let fits = g.T.Fits.fits in
    let key = c.args.self.now.table.shared.key in
    let place = c.args.place in
    let id = c.args.caller.now.seat.id in (
      c.requires.lock.table,
      search rules,
      at_key fits key _ _ id _ (Leaving (place ∷ []), []) place (λ _. 0)
          (λ _. 0) (λ _. TellTells) (λ n. step n place 0 0 none) refl c.requires.lock.carried c.requires.owes (tells (fits key) _ id place []),
    )
