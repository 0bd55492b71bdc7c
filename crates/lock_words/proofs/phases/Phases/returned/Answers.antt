use Rattle.std.proofs.Common.{rules, ℕ, ◌+◌, ◌*◌, [], ◌∷◌, Some, refl, sym, ap, ◌∙◌}
use mathlib.Core.Option.{none}
use Rattle.atomic_table.specs.Table.{step}
use Rattle.lot_word_lock.specs.WordKey.{without_key}
use Rattle.lock_words.specs.Phases.{numbers_of}
use Rattle.lock_words.specs.PhaseRule.{view}
use Rattle.lock_words.specs.PhaseSteps.{ReturnedTells}
use Rattle.lock_words.proofs.PhaseKeys.{at_key, with_title, follows}
use Rattle.lock_words.proofs.PhaseMoves.{returns}
use Rattle.lock_words.proofs.phases.Phases.returned.Goals as goal

pub store-requires : goal.store-requires
store-requires g c =
    let told = g.M.Tells.told in
    let fits = g.M.Tells.fits in
    let key = c.args.self.now.table.shared.key in
    let id = c.put_title.new.hand.seat.id in
    let title = c.args.title in
    let me = without_key c.args.hand.now.seat.me in
    let numbers = numbers_of c.args.hand.now in
    let bit = c.word_of.ensures in
    let new = c.word_of.result in
    let carries = follows me numbers c.requires.follows c.requires.carries in (
      c.put_title.ensures.own.table,
      search rules,
      at_key told fits key _ 1 id _ (view me.0.waits me.0.phase 0 (Some numbers), (0, Some title) ∷ []) 0 (λ _. new) (λ _. new)
          (λ _. ReturnedTells) (λ n. step n 0 new 0 none) c.args.self.now.sized.1 c.put_title.ensures.own.carried
          (with_title me _ _ title _ c.put_title.ensures.back carries)
          (returns told (fits key) id me.0.phase me.0.waits numbers title bit.0 new
          (ReturnedTells (step 1 0 new 0 none) (view me.0.waits me.0.phase 0 (Some numbers), (0, Some title) ∷ []) new)
          (bit.1 ∙ ap (λ (n : ℕ). 4 * n + bit.0) (sym c.requires.found)) bit.2 (λ e. c.requires.more (bit.3 e))
          c.requires.fits c.requires.others refl),
    )
