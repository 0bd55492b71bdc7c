use Rattle.std.proofs.Common.{rules, ◌==◌, ◌+◌, [], None, refl}
use mathlib.Core.Option.{none}
use prog.Atomic.{either}
use Rattle.atomic_table.specs.Table.{step}
use Rattle.lot_word_lock.specs.WordKey.{without_key}
use Rattle.lock_words.specs.PhaseRule.{being}
use Rattle.lock_words.specs.PhaseSteps.{LeadTells}
use Rattle.lock_words.proofs.PhaseKeys.{at_key}
use Rattle.lock_words.proofs.PhaseMoves.{begins_to_lead}
use Rattle.lock_words.proofs.phases.Phases.lead.Goals as goal

pub compare_exchange-requires : goal.compare_exchange-requires
compare_exchange-requires g c =
    let told = g.M.Tells.told in
    let fits = g.M.Tells.fits in
    let key = c.args.self.now.table.shared.key in
    let word = c.args.word in
    let new = word + 4 in
    let id = c.args.hand.now.seat.id in
    let me = without_key c.args.hand.now.seat.me in (
      c.requires.own.table,
      search rules,
      at_key told fits key _ _ id _ (being None me.0.phase, []) 0 (λ x. either (x == word) new x) (λ r. r)
          (λ _. LeadTells) (λ n. step n 0 word new none) refl c.requires.own.carried c.requires.rests
          (begins_to_lead told (fits key) _ id me.0.phase [] word new c.requires.open_phase refl),
    )
