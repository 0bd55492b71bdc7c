use Rattle.std.proofs.Common.{rules, [], refl}
use mathlib.Core.Option.{none}
use Rattle.atomic_table.specs.Table.{step}
use Rattle.lot_word_lock.specs.declared.word_lock.view.View.TheVariants.{Enqueued}
use Rattle.lot_word_lock.specs.WordSteps.{LookTells}
use Rattle.lot_word_lock.proofs.WordWaits.{looks}
use Rattle.lot_word_lock.proofs.WordKeyLemmas.{at_key}
use Rattle.lot_word_lock.proofs.word_lock.WordLock.own_link.Goals as goal

pub load-requires : goal.load-requires
load-requires g c =
    let fits = g.T.Fits.fits in
    let key = c.args.self.now.table.shared.key in
    let place = c.args.place in
    let id = c.args.caller.now.seat.id in (
      c.requires.lock.table,
      search rules,
      at_key fits key _ _ id _ (Enqueued place, []) place (λ x. x)
          (λ r. r) (λ _. LookTells) (λ n. step n place 0 0 none) refl c.requires.lock.carried c.requires.waits
          (looks (fits key) _ id place c.requires.place),
    )
