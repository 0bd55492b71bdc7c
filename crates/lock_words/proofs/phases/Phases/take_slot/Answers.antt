use Rattle.std.proofs.Common.{rules, ◌==◌, ◌+◌, ◌*◌, ◌/◌, [], None, refl}
use mathlib.Core.Option.{none}
use prog.Atomic.{either}
use Rattle.atomic_table.specs.Table.{step}
use Rattle.lot_word_lock.specs.WordKey.{without_key}
use Rattle.lock_words.specs.PhaseRule.{view}
use Rattle.lock_words.specs.PhaseSteps.{CarryTells}
use Rattle.lock_words.proofs.PhaseKeys.{at_key}
use Rattle.lock_words.proofs.PhaseMoves.{carries}
use Rattle.lock_words.proofs.phases.Phases.take_slot.Goals as goal

pub compare_exchange-requires : goal.compare_exchange-requires
compare_exchange-requires g c =
    let told = g.M.Tells.told in
    let fits = g.M.Tells.fits in
    let key = c.args.self.now.table.shared.key in
    let word = c.args.word in
    let new = word / 4 * 4 + 2 in
    let id = c.args.hand.now.seat.id in
    let me = without_key c.args.hand.now.seat.me in (
      c.requires.own.table,
      search rules,
      at_key told fits key _ 1 id _ (view me.0.waits me.0.phase me.0.leads None, []) 0 (λ x. either (x == word) new x) (λ r. r)
          (λ k. CarryTells told (fits k)) (λ n. step n 0 word new none) c.args.self.now.sized.1
          c.requires.own.carried c.requires.without
          (carries told (fits key) id me.0.phase me.0.leads me.0.waits word new c.requires.home refl),
    )
