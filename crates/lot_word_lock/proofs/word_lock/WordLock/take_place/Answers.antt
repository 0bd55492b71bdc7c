use Rattle.std.proofs.Common.{rules, ◌+◌, ◌==◌, [], refl, ap, ◌∙◌, eqb-true, Option}
use mathlib.Core.Option.{none}
use prog.Atomic.{either}
use Rattle.atomic_table.specs.Table.{step, Me}
use Rattle.lot_word_lock.specs.declared.word_lock.view.View.{View}
use Rattle.lot_word_lock.specs.WordView.{with_place}
use Rattle.lot_word_lock.specs.WordSteps.{TakePlaceTells}
use Rattle.lot_word_lock.specs.declared.word_lock.view.View.TheVariants.{Trying}
use Rattle.lot_word_lock.proofs.WordTries.{takes_place}
use Rattle.lot_word_lock.proofs.WordKeyLemmas.{at_key}
use Rattle.lot_word_lock.proofs.word_lock.WordLock.take_place.Goals as goal

pub compare_exchange-requires : goal.compare_exchange-requires
compare_exchange-requires g c =
    let fits = g.T.Fits.fits in
    let key = c.args.self.now.table.shared.key in
    let place = c.args.place in
    let id = c.args.caller.now.seat.id in
    let tries = c.requires.tries in (
      c.requires.lock.table,
      search rules,
      at_key fits key _ _ id _ (Trying tries.0 0 0, []) (place + 4)
          (λ x. either (x == 0) c.args.mark x) (λ r. r) (λ _. TakePlaceTells) (λ n. step n (place + 4) 0 c.args.mark none) refl c.requires.lock.carried tries.1
          (takes_place (fits key) _ id tries.0 place c.args.mark none c.requires.place c.requires.mark.0 c.requires.mark.1),
    )

pub returns-clause-has : goal.returns-clause-has
returns-clause-has g c = λ won.
    let place = c.args.place in
    let tries = c.requires.tries in
    let took = c.compare_exchange.ensures.2.told.0 (eqb-true c.compare_exchange.result 0 won) place refl in (
      took.0,
      (
        tries.0,
        took.1 ∙ ap (λ m. let r : Me (Option g.row.T.Denot) View =
            (with_place m.0 place took.0, m.1) in r) tries.1,
      ),
    )
