use Rattle.std.proofs.Common.{rules, ◌==◌, List, ℕ, ◌∷◌, [], Some, Option, ap, ◌∙◌}
use mathlib.Core.Logic.{dite}
use native.Mathlib.Decide.{ℕ_discrete}
use mathlib.Core.Option.{none}
use prog.Atomic.{either}
use Rattle.atomic_table.specs.Table.{step, rest}
use Rattle.lot_word_lock.specs.WordView.{seen_by, leaving}
use Rattle.lot_word_lock.specs.WordKey.{without_key}
use Rattle.lot_word_lock.specs.WordSteps.{ReleaseToZeroTells}
use Rattle.lot_word_lock.specs.declared.word_lock.view.View.TheVariants.{Holding}
use Rattle.lot_word_lock.proofs.WordHolds.{releases_to_zero}
use Rattle.lot_word_lock.proofs.WordKeeps.{seat_is, slot-holder, slot-other, leaving_is-other}
use Rattle.lot_word_lock.proofs.WordKeyLemmas.{at_key}
use Rattle.lot_word_lock.proofs.word_lock.WordLock.release_to_zero.Goals as goal

pub compare_exchange-requires : goal.compare_exchange-requires
compare_exchange-requires g c =
    let fits = g.T.Fits.fits in
    let key = c.args.self.now.table.shared.key in
    let word = c.args.word in
    let id = c.args.caller.now.seat.id in
    let me = without_key c.args.caller.now.seat.me in
    let seen = seen_by me.0 in
    let home = c.requires.home in (
      c.requires.lock.table,
      search rules,
      at_key fits key _ 1 id _ (Holding seen [], (0, Some home.0) ∷ []) 0
          (λ x. either (x == word) 0 x) (λ r. r) (λ _. ReleaseToZeroTells) (λ n. step n 0 word 0 none) c.args.self.now.sized.1 c.requires.lock.carried
          (seat_is me _ _ c.requires.holds home.1) (releases_to_zero (fits key) id seen home.0 word none
          c.requires.short c.requires.word home.2),
    )

pub returns-clause-slot : goal.returns-clause-slot
returns-clause-slot g c =
    let told = c.compare_exchange.ensures.2.told in
    let seen = seen_by c.args.caller.now.seat.me.0.1 in
    let home = c.requires.home in
    dite (ℕ_discrete c.compare_exchange.result c.args.word)
    (λ e. slot-other _ (leaving seen) (told.0 e
    ∙ ap (λ (slots : List (ℕ × Option g.row.T.Denot)). (leaving seen, rest slots)) home.1) (leaving_is-other seen))
    (λ ne. let longer = told.1 ne in slot-holder _ (longer.0 ∷ longer.1) [] (Some home.0) (longer.2
    ∙ ap (λ (slots : List (ℕ × Option g.row.T.Denot)). (Holding (longer.0 ∷ longer.1) [], slots)) home.1))
