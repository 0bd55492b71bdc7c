use Rattle.std.proofs.Common.{◌/◌, ◌∷◌, List, ℕ, length, ap, sym, refl, ◌∙◌, arith}
use mathlib.Core.Option.{none}
use Rattle.atomic_table.specs.Table.{step}
use Rattle.lot_word_lock.specs.declared.word_lock.view.View.{View}
use Rattle.lot_word_lock.specs.WordPlaces.{behind}
use Rattle.lot_word_lock.specs.WordView.{seen_by}
use Rattle.lot_word_lock.specs.WordKey.{without_key}
use Rattle.lot_word_lock.specs.WordSteps.{ReadFirstTells}
use Rattle.lot_word_lock.proofs.WordHolds.{reads_first}
use Rattle.lot_word_lock.proofs.WordKeeps.{seat_is, seeing, seen_from}
use Rattle.lot_word_lock.proofs.WordKeyLemmas.{at_key}
use Rattle.lot_word_lock.proofs.word_lock.WordLock.first_link.Goals as goal

pub load-requires : goal.load-requires
load-requires g c =
    let fits = g.T.Fits.fits in
    let key = c.args.self.now.table.shared.key in
    let me = without_key c.args.caller.now.seat.me in
    let h = c.requires.holds in
    let newest = c.args.word / 2 in
    let seen = seen_from me.0 h.0 h.1 c.args.word h.2 h.3 h.4 in (
      c.requires.lock.table,
      omega (arith, seen.1.1, c.args.self.now.sized.0),
      at_key fits key _ _ c.args.caller.now.seat.id _ (seeing (newest ∷ h.1), me.1) newest (λ x. x)
          (λ r. r) (λ _. ReadFirstTells) (λ n. step n newest 0 0 none) refl c.requires.lock.carried
          (seat_is me _ _ seen.0 refl) (reads_first (fits key) _ c.args.caller.now.seat.id newest h.1 me.1),
    )

pub returns-clause-last : goal.returns-clause-last
returns-clause-last g c one =
    let h = c.requires.holds in
    let seen = seen_from c.args.caller.now.seat.me.0.1 h.0 h.1 c.args.word h.2 h.3 h.4 in
    let older = sym (ap (λ (v : View). behind (seen_by v)) seen.0) ∙ c.load.ensures.2.told.1.last one in
    ap (λ m. m.0) c.load.ensures.2.told.0 ∙ (seen.0 ∙ ap (λ (xs : List ℕ). seeing (c.args.word / 2 ∷ xs)) older)

pub returns-clause-next : goal.returns-clause-next
returns-clause-next g c more =
    let h = c.requires.holds in
    let me = without_key c.args.caller.now.seat.me in
    let seen = seen_from me.0 h.0 h.1 c.args.word h.2 h.3 h.4 in
    let next = c.load.ensures.2.told.1.next more in
    let older = sym (ap (λ (v : View). behind (seen_by v)) seen.0) ∙ next.0 in (
      next.1,
      (
        behind (behind (seen_by me.0)),
        ap (λ m. m.0) c.load.ensures.2.told.0 ∙
            (seen.0 ∙ ap (λ (xs : List ℕ). seeing (c.args.word / 2 ∷ xs)) older),
      ),
    )

pub returns-clause-alone : goal.returns-clause-alone
returns-clause-alone g c one n h =
    let older = sym (ap (λ (v : View). behind (seen_by v)) h.2) ∙ c.load.ensures.2.told.1.last one in
    omega (arith, h.5, ap (λ (xs : List ℕ). length xs) older)
