use Rattle.lot_base.specs.Filter.{park_tokens}
use Rattle.lot_base.specs.NodeLists.{lists_of}
use Rattle.lot_base.proofs.FilterLemmas.{IsFilterCallable-always}
use Rattle.base_tests.proofs.bucket.steps.filter.Goals as goal

pub take_filter-nodes-requires-clause-filter : goal.take_filter-nodes-requires-clause-filter
take_filter-nodes-requires-clause-filter g c =
    IsFilterCallable-always g.F.FnMut (λ filter token. c.requires filter token) c.args.filter
    (park_tokens (lists_of c.args.bucket.now.nodes c.args.key))
