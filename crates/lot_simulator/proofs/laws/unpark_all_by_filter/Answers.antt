use Rattle.std.proofs.Common.{rules, ◌≡◌, ◌∙◌, ap}
use Rattle.lot_base.specs.Waiting.{result_of, split_all, split_filter}
use Rattle.lot_machine.specs.Machine.{after_unpark}
use Rattle.lot_simulator.specs.Lot.{machine}
use Rattle.lot_simulator.specs.Represents.{waiters_in}
use Rattle.lot_simulator.proofs.ScheduleLemmas.{split_filter-always_unpark}
use Rattle.lot_simulator.proofs.laws.unpark_all_by_filter.Goals as goal
use Rattle.lot_simulator.proofs.laws.unpark_all_by_filter.Goals.{After-unpark_chosen}

-- the filter takes them all
takes_all : (c : After-unpark_chosen) → split_filter c.unpark_chosen.ensures.filtered.decisions
    (waiters_in c.args.lot.now.buckets c.args.key) ≡ split_all (waiters_in c.args.lot.now.buckets c.args.key)
takes_all c =
    split_filter-always_unpark _ (λ filter token decision next called. search rules) _
    (waiters_in c.args.lot.now.buckets c.args.key) c.unpark_chosen.ensures.filtered.decisions
    c.unpark_chosen.ensures.filtered.decided

pub returns-clause-result : goal.returns-clause-result
returns-clause-result c = c.unpark_chosen.ensures.filtered.answer ∙ ap result_of (takes_all c)

pub returns-clause-taken : goal.returns-clause-taken
returns-clause-taken c =
    let filtered = c.unpark_chosen.ensures.filtered in
    let token : filtered.taken.0 ≡ c.args.unpark_token = search rules in
    filtered.taken.2
    ∙ ap (λ split. after_unpark (machine c.args.lot.now) c.args.key split filtered.taken.0) (takes_all c)
    ∙ ap (after_unpark (machine c.args.lot.now) c.args.key (split_all (waiters_in c.args.lot.now.buckets c.args.key)))
    token
