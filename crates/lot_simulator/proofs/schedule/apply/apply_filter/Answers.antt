use Rattle.std.proofs.Common.{rules, ◌≡◌, ◌∙◌, ap}
use Rattle.lot_base.proofs.FilterLemmas.{IsFilterCallable-always}
use Rattle.lot_base.specs.Waiting.{result_of, split_filter}
use Rattle.lot_simulator.specs.Lot.{machine}
use Rattle.lot_machine.specs.Machine.{Waiter, after_unpark}
use Rattle.lot_simulator.specs.Represents.{waiters_in}
use Rattle.lot_simulator.proofs.ScheduleLemmas.{split_filter-called}
use Rattle.lot_simulator.proofs.schedule.apply.apply_filter.Goals as goal

pub unpark_filter-requires-clause-filter : goal.unpark_filter-requires-clause-filter
unpark_filter-requires-clause-filter c = search (rules, IsFilterCallable-always)

pub returns-clause-answer : goal.returns-clause-answer
returns-clause-answer c =
    let filtered = c.unpark_filter.ensures.filtered in
    filtered.answer ∙ ap result_of
    (split_filter-called (λ (waiter : Waiter). waiter.park_token) _ (λ filter. filter.0.now)
    (λ filter next token decision called. search rules) _ _ filtered.decisions filtered.decided)

pub returns-clause-taken : goal.returns-clause-taken
returns-clause-taken c =
    let filtered = c.unpark_filter.ensures.filtered in
    let waiters = waiters_in c.args.lot.now.buckets c.args.key in
    let token : filtered.taken.0 ≡ c.args.token = search rules in
    filtered.taken.2
    ∙ ap (λ split. after_unpark (machine c.args.lot.now) c.args.key split filtered.taken.0)
    (split_filter-called (λ (waiter : Waiter). waiter.park_token) _ (λ filter. filter.0.now)
    (λ filter next token decision called. search rules) _ waiters filtered.decisions filtered.decided)
    ∙ ap (after_unpark (machine c.args.lot.now) c.args.key (split_filter c.args.decisions.now waiters)) token
