use Rattle.std.proofs.Common.{rules, []}
use mathlib.Core.Option.{none}
use Rattle.atomic_table.specs.Table.{step}
use Rattle.lot_word_lock.proofs.WordKeyLemmas.{lift_enters}
use Rattle.lock_words.specs.PhaseRule.{resting}
use Rattle.lock_words.specs.PhaseSteps.{ArriveTells}
use Rattle.lock_words.proofs.PhaseBoard.{arrives}
use Rattle.lock_words.proofs.PhaseKeys.{RuleOf}
use Rattle.lock_words.proofs.phases.Phases.arrive.Goals as goal

pub load_new_seat-requires : goal.load_new_seat-requires
load_new_seat-requires g c =
    let told = g.M.Tells.told in
    let fits = g.M.Tells.fits in
    let key = c.args.self.now.table.shared.key in
    let slots = c.args.self.now.table.shared.table_id.slots in (
      search rules,
      lift_enters (RuleOf told fits) key slots 0 resting (λ _. ArriveTells) (step slots 0 0 0 none)
          (arrives told (fits key) slots 0 (resting, [])),
    )
