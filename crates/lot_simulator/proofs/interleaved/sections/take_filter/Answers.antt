use Rattle.std.proofs.Common.{rules, ◌≡◌, ◌∙◌, ap, subst}
use Rattle.lot_base.proofs.FilterLemmas.{IsFilterCallable-always}
use Rattle.lot_base.specs.NodeFields.{NodeFields}
use Rattle.lot_base.specs.NodeLists.{with_saturated_counts}
use Rattle.lot_base.specs.Waiting.{Split, result_of, split_filter}
use Rattle.lot_simulator.specs.Represents.{nodes_in}
use Rattle.lot_simulator.specs.Table.{IsTakenFrom}
use Rattle.lot_simulator.proofs.ScheduleLemmas.{split_filter-called}
use Rattle.lot_simulator.proofs.interleaved.sections.take_filter.Goals as goal
use Rattle.lot_simulator.proofs.interleaved.sections.take_filter.Goals.{After-take_filter}

pub take_filter-requires-clause-filter : goal.take_filter-requires-clause-filter
take_filter-requires-clause-filter c = search (rules, IsFilterCallable-always)

-- the filter's answers split the nodes as the decisions do
split_is : (c : After-take_filter) → split_filter c.take_filter.ensures.filtered.decisions
    (nodes_in c.args.table.now.cells c.args.key)
    ≡ split_filter c.args.decisions.now (nodes_in c.args.table.now.cells c.args.key)
split_is c =
    let filtered = c.take_filter.ensures.filtered in
    split_filter-called (λ (node : NodeFields). node.park_token) _ (λ filter. filter.0.now)
    (λ filter next token decision called. search rules) _ (nodes_in c.args.table.now.cells c.args.key)
    filtered.decisions filtered.decided

pub returns-clause-answer : goal.returns-clause-answer
returns-clause-answer c =
    c.take_filter.ensures.filtered.answer
    ∙ ap (λ (split : Split NodeFields). with_saturated_counts (result_of split)) (split_is c)

pub returns-clause-taken : goal.returns-clause-taken
returns-clause-taken c =
    let filtered = c.take_filter.ensures.filtered in
    let token : filtered.taken.0 ≡ c.args.token = search rules in
    subst
    (λ (split : Split NodeFields). IsTakenFrom c.args.table.now.cells c.take_filter.new.self.cells c.args.key split
    c.args.token c.take_filter.result.1) (split_is c)
    (subst (λ token. IsTakenFrom c.args.table.now.cells c.take_filter.new.self.cells c.args.key
    (split_filter filtered.decisions (nodes_in c.args.table.now.cells c.args.key)) token c.take_filter.result.1) token
    filtered.taken.2)
