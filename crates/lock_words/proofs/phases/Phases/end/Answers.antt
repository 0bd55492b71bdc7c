use Rattle.std.proofs.Common.{rules, ◌≡◌, ◌==◌, ◌%◌, ◌/◌, [], None, refl, arith}
use mathlib.Core.Option.{none}
use prog.Atomic.{either}
use Rattle.atomic_table.specs.Table.{step}
use Rattle.lot_word_lock.specs.WordKey.{without_key}
use Rattle.lock_words.specs.PhaseRule.{view, next_phase}
use Rattle.lock_words.specs.PhaseSteps.{EndTells}
use Rattle.lock_words.proofs.PhaseKeys.{at_key}
use Rattle.lock_words.proofs.PhaseMoves.{ends}
use Rattle.lock_words.proofs.phases.Phases.end.Goals as goal

pub compare_exchange-requires : goal.compare_exchange-requires
compare_exchange-requires g c =
    let told = g.M.Tells.told in
    let fits = g.M.Tells.fits in
    let key = c.args.self.now.table.shared.key in
    let word = c.args.word in
    let new = c.next_word.result in
    let is_next = c.next_word.ensures in
    let even : next_phase (word / 4) % 2 ≡ 0 = omega arith in
    let unmarked = c.requires.nobody in
    let id = c.args.hand.now.seat.id in
    let me = without_key c.args.hand.now.seat.me in (
      c.requires.own.table,
      search rules,
      at_key told fits key _ _ id _ (view me.0.waits me.0.phase me.0.leads None, []) 0 (λ x. either (x == word) new x) (λ r. r)
          (λ _. EndTells) (λ n. step n 0 word new none) refl c.requires.own.carried c.requires.without
          (ends told (fits key) _ id me.0.phase me.0.leads me.0.waits [] word (next_phase (word / 4)) new unmarked
          c.requires.open_phase even is_next),
    )
