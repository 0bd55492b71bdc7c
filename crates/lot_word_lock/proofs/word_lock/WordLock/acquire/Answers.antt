use Rattle.std.proofs.Common.{rules, ◌+◌, ◌==◌, [], ◌∷◌, refl, ap, ◌∙◌, Some, Option, subst, eqb-true}
use mathlib.Core.Logic.{dite}
use native.Mathlib.Decide.{ℕ_discrete}
use mathlib.Core.Option.{none}
use prog.Atomic.{either}
use Rattle.atomic_table.specs.Table.{step, Me}
use Rattle.lot_word_lock.specs.declared.word_lock.view.View.TheVariants.{Trying, Holding}
use Rattle.lot_word_lock.specs.WordSteps.{AcquireTells}
use Rattle.lot_word_lock.proofs.WordTries.{acquires}
use Rattle.lot_word_lock.specs.declared.word_lock.view.View.{View}
use Rattle.lot_word_lock.proofs.WordKeeps.{slot-holder, slot-other}
use Rattle.lot_word_lock.proofs.WordKeyLemmas.{at_key}
use Rattle.lot_word_lock.proofs.word_lock.WordLock.acquire.Goals as goal

pub compare_exchange-requires : goal.compare_exchange-requires
compare_exchange-requires g c =
    let fits = g.T.Fits.fits in
    let key = c.args.self.now.table.shared.key in
    let word = c.args.word in
    let id = c.args.caller.now.seat.id in
    let tries = c.requires.tries in (
      c.requires.lock.table,
      search rules,
      at_key fits key _ 1 id _ (Trying tries.0 0 0, []) 0
          (λ x. either (x == word) (word + 1) x) (λ r. r) (λ k. AcquireTells (fits k)) (λ n. step n 0 word (word + 1) none)
          c.args.self.now.sized.1 c.requires.lock.carried tries.1
          (acquires (fits key) id tries.0 word (word + 1) none c.requires.free refl),
    )

pub returns-clause-holds : goal.returns-clause-holds
returns-clause-holds g c = λ won.
    let took = c.compare_exchange.ensures.2.told.0 (eqb-true c.compare_exchange.result c.args.word won) in (
      ap (λ (m : Me (Option g.row.T.Denot) View). m.0) took.1,
      (
        took.0,
        ap (λ (m : Me (Option g.row.T.Denot) View). m.1) took.1
            ∙ ap (λ (m : Me (Option g.row.T.Denot) View). (0, Some took.0) ∷ m.1) c.requires.tries.1,
        subst (λ k. g.T.Fits.fits k took.0) c.requires.lock.carried took.2,
      ),
    )

pub returns-clause-slot : goal.returns-clause-slot
returns-clause-slot g c =
    let told = c.compare_exchange.ensures.2.told in
    let tries = c.requires.tries in
    dite (ℕ_discrete c.compare_exchange.result c.args.word)
    (λ e. slot-holder _ [] [] (Some (told.0 e).0) ((told.0 e).1
    ∙ ap (λ (me : Me (Option g.row.T.Denot) View). (Holding [] [], (0, Some (told.0 e).0) ∷ me.1)) tries.1))
    (λ ne. slot-other _ (Trying tries.0 0 0) (told.1 ne ∙ tries.1) (λ holds. holds))
