use Rattle.std.proofs.Common.{rules, ◌∷◌, [], refl, Some, ◌+◌, ◌-◌, ◌%◌, ◌^◌}
use mathlib.Core.Option.{none}
use Rattle.atomic_table.specs.Table.{step}
use Rattle.lot_word_lock.specs.declared.word_lock.view.View.TheVariants.{Holding}
use Rattle.lot_word_lock.specs.WordKey.{without_key}
use Rattle.lot_word_lock.specs.WordSteps.{ReleaseAfterCutTells}
use Rattle.lot_word_lock.proofs.WordHolds.{releases_after_cut}
use Rattle.lot_word_lock.proofs.WordKeeps.{seat_is}
use Rattle.lot_word_lock.proofs.WordKeyLemmas.{at_key}
use Rattle.lot_word_lock.proofs.word_lock.WordLock.release_after_cut.Goals as goal

pub fetch_sub-requires : goal.fetch_sub-requires
fetch_sub-requires g c =
    let fits = g.T.Fits.fits in
    let key = c.args.self.now.table.shared.key in
    let id = c.args.caller.now.seat.id in
    let me = without_key c.args.caller.now.seat.me in
    let home = c.requires.home in
    let owes = c.requires.owes in (
      c.requires.lock.table,
      search rules,
      at_key fits key _ 1 id _ (Holding [] (owes.0 ∷ []), (0, Some home.0) ∷ []) 0
          (λ x. (x + (2 ^ 64 - 1)) % 2 ^ 64) (λ r. r) (λ _. ReleaseAfterCutTells) (λ n. step n 0 1 0 none) c.args.self.now.sized.1 c.requires.lock.carried
          (seat_is me _ _ owes.1 home.1) (releases_after_cut (fits key) id owes.0 home.0 1 refl home.2),
    )
