use Rattle.std.proofs.Common.{rules, ◌+◌, ◌*◌, ◌/◌, [], ◌∷◌, Some, refl, arith}
use mathlib.Core.Option.{none}
use Rattle.atomic_table.specs.Table.{step}
use Rattle.lot_word_lock.specs.WordKey.{without_key}
use Rattle.lock_words.specs.Phases.{numbers_of}
use Rattle.lock_words.specs.PhaseRule.{view}
use Rattle.lock_words.specs.PhaseSteps.{EnteredTells}
use Rattle.lock_words.proofs.PhaseKeys.{at_key, with_title, follows}
use Rattle.lock_words.proofs.PhaseMoves.{enters, entered_tells}
use Rattle.lock_words.proofs.phases.Phases.entered.Goals as goal

pub store-requires : goal.store-requires
store-requires g c =
    let told = g.M.Tells.told in
    let fits = g.M.Tells.fits in
    let key = c.args.self.now.table.shared.key in
    let id = c.put_title.new.hand.seat.id in
    let title = c.args.title in
    let me = without_key c.args.hand.now.seat.me in
    let numbers = numbers_of c.args.hand.now in
    let new = c.args.found / 4 * 4 + 1 in
    let is_phase = c.requires.found in
    let carries = follows me numbers c.requires.follows c.requires.carries in (
      c.put_title.ensures.own.table,
      search rules,
      at_key told fits key _ 1 id _ (view me.0.waits me.0.phase 0 (Some numbers), (0, Some title) ∷ []) 0 (λ _. new) (λ _. new)
          (λ _. EnteredTells told) (λ n. step n 0 new 0 none) c.args.self.now.sized.1 c.put_title.ensures.own.carried
          (with_title me _ _ title _ c.put_title.ensures.back carries)
          (enters told (fits key) id me.0.phase me.0.waits numbers c.args.number title new
          (EnteredTells told (step 1 0 new 0 none) (view me.0.waits me.0.phase 0 (Some numbers), (0, Some title) ∷ []) new)
          (omega arith) c.requires.new_one c.requires.fits c.requires.waits c.requires.tells refl),
    )

pub returns-clause-waits : goal.returns-clause-waits
returns-clause-waits g c =
    let me = without_key c.args.hand.now.seat.me in
    let back = with_title me _ _ c.args.title _ c.put_title.ensures.back c.requires.carries in
    entered_tells g.M.Tells.told _ _ _ _ (numbers_of c.args.hand.now) c.args.number (c.args.found / 4)
    c.store.ensures.2.told back c.requires.found c.requires.tells
