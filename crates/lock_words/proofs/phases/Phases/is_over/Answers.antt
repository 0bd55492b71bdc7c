use Rattle.std.proofs.Common.{rules, [], refl}
use mathlib.Core.Option.{none}
use Rattle.atomic_table.specs.Table.{step}
use Rattle.lot_word_lock.specs.WordKey.{without_key}
use Rattle.lock_words.specs.PhaseRule.{being}
use Rattle.lock_words.specs.PhaseSteps.{LookTells}
use Rattle.lock_words.proofs.PhaseKeys.{at_key}
use Rattle.lock_words.proofs.PhaseMoves.{looks}
use Rattle.lock_words.proofs.phases.Phases.is_over.Goals as goal

pub load-requires : goal.load-requires
load-requires g c =
    let told = g.M.Tells.told in
    let fits = g.M.Tells.fits in
    let key = c.args.self.now.table.shared.key in
    let id = c.args.hand.now.seat.id in
    let me = without_key c.args.hand.now.seat.me in (
      c.requires.own.table,
      search rules,
      at_key told fits key _ _ id _ (being me.0.waits me.0.phase, []) 0 (λ y. y) (λ r. r) (λ _. LookTells)
          (λ n. step n 0 0 0 none) refl c.requires.own.carried c.requires.follows
          (looks told (fits key) _ id me.0.phase me.0.waits []),
    )
