use Rattle.std.proofs.Common.{rules, ◌≡◌, ℕ, ◌/◌, ◌%◌, [], ◌∷◌, Some, refl, sym, subst, arith}
use mathlib.Core.Option.{none}
use Rattle.atomic_table.specs.Table.{step}
use Rattle.lot_word_lock.specs.WordKey.{without_key}
use Rattle.lock_words.specs.Phases.{numbers_of, phase_of}
use Rattle.lock_words.specs.PhaseRule.{view, next_phase}
use Rattle.lock_words.specs.PhaseSteps.{EndedTells}
use Rattle.lock_words.proofs.PhaseKeys.{at_key, with_title, ended_knows}
use Rattle.lock_words.proofs.PhaseMoves.{ends_all}
use Rattle.lock_words.proofs.phases.Phases.ended.Goals as goal

pub store-requires : goal.store-requires
store-requires g c =
    let told = g.M.Tells.told in
    let fits = g.M.Tells.fits in
    let key = c.args.self.now.table.shared.key in
    let id = c.put_title.new.hand.seat.id in
    let title = c.args.title in
    let me = without_key c.args.hand.now.seat.me in
    let numbers = numbers_of c.args.hand.now in
    let new = c.next_word.result in
    let is_next = c.next_word.ensures in
    let found : phase_of c.args.hand.now ≡ c.args.found / 4 = c.requires.found in
    let even : next_phase (c.args.found / 4) % 2 ≡ 0 = omega arith in (
      c.put_title.ensures.own.table,
      search rules,
      at_key told fits key _ 1 id _ (view me.0.waits me.0.phase me.0.leads (Some numbers), (0, Some title) ∷ []) 0 (λ _. new) (λ _. new)
          (λ _. EndedTells) (λ n. step n 0 new 0 none) c.args.self.now.sized.1 c.put_title.ensures.own.carried
          (with_title me _ _ title _ c.put_title.ensures.back c.requires.carries)
          (ends_all told (fits key) id me.0.phase me.0.leads me.0.waits numbers title (next_phase (c.args.found / 4)) new
          (EndedTells (step 1 0 new 0 none) (view me.0.waits me.0.phase me.0.leads (Some numbers), (0, Some title) ∷ []) new)
          (λ unled. subst (λ (p : ℕ). p % 2 ≡ 0) (sym found) (c.requires.open_phase unled)) even is_next c.requires.fits
          c.requires.nobody refl),
    )

pub returns-clause-next : goal.returns-clause-next
returns-clause-next g c =
    let me = without_key c.args.hand.now.seat.me in
    let found = c.args.found in
    let is_next = c.next_word.ensures in
    ended_knows _ _ _ c.args.title (c.next_word.result / 4) (next_phase (found / 4)) (omega arith)
    c.store.ensures.2.told (with_title me _ _ c.args.title _ c.put_title.ensures.back c.requires.carries)
