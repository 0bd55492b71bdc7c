use Rattle.std.proofs.Common.{rules, ◌∷◌, [], refl}
use mathlib.Core.Option.{none}
use Rattle.atomic_table.specs.Table.{step}
use Rattle.lot_word_lock.specs.declared.word_lock.view.View.TheVariants.{Holding}
use Rattle.lot_word_lock.specs.WordKey.{without_key}
use Rattle.lot_word_lock.specs.WordSteps.{ReadNextTells}
use Rattle.lot_word_lock.proofs.WordHolds.{reads_next}
use Rattle.lot_word_lock.proofs.WordKeeps.{seat_is}
use Rattle.lot_word_lock.proofs.WordKeyLemmas.{at_key}
use Rattle.lot_word_lock.proofs.word_lock.WordLock.next_link.Goals as goal

pub load-requires : goal.load-requires
load-requires g c =
    let fits = g.T.Fits.fits in
    let key = c.args.self.now.table.shared.key in
    let place = c.args.place in
    let id = c.args.caller.now.seat.id in
    let me = without_key c.args.caller.now.seat.me in
    let holds = c.requires.holds in (
      c.requires.lock.table,
      search rules,
      at_key fits key _ _ id _ (Holding (holds.0 ∷ place ∷ holds.1) [], me.1) place
          (λ x. x) (λ r. r) (λ _. ReadNextTells) (λ n. step n place 0 0 none) refl c.requires.lock.carried (seat_is me _ _ holds.2 refl)
          (reads_next (fits key) _ id holds.0 place holds.1 me.1),
    )
