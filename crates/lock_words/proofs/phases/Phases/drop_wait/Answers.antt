use Rattle.std.proofs.Common.{rules, ◌==◌, [], refl}
use mathlib.Core.Option.{none}
use prog.Atomic.{either}
use Rattle.atomic_table.specs.Table.{step}
use Rattle.lot_word_lock.specs.WordKey.{without_key}
use Rattle.lock_words.specs.PhaseRule.{being}
use Rattle.lock_words.specs.PhaseSteps.{DropWaitTells}
use Rattle.lock_words.proofs.PhaseKeys.{at_key}
use Rattle.lock_words.proofs.PhaseMoves.{drops_wait}
use Rattle.lock_words.proofs.phases.Phases.drop_wait.Goals as goal

pub compare_exchange-requires : goal.compare_exchange-requires
compare_exchange-requires g c =
    let told = g.M.Tells.told in
    let fits = g.M.Tells.fits in
    let key = c.args.self.now.table.shared.key in
    let word = c.args.word in
    let id = c.args.hand.now.seat.id in
    let me = without_key c.args.hand.now.seat.me in (
      c.requires.own.table,
      search rules,
      at_key told fits key _ _ id _ (being me.0.waits me.0.phase, []) 0 (λ x. either (x == word) word x) (λ r. r)
          (λ _. DropWaitTells) (λ n. step n 0 word word none) refl c.requires.own.carried c.requires.follows
          (drops_wait told (fits key) _ id me.0.phase me.0.waits [] word c.requires.nobody),
    )
