use Rattle.std.proofs.Common.{◌∙◌, ◌++◌, ap}
use Rattle.lot_simulator.specs.Represents.{nodes_in}
use Rattle.lot_simulator.proofs.GrowthLemmas.{nodes_in-empty, KeepsLists-from_nodes}
use Rattle.lot_simulator.proofs.table.growth.resize.Goals as goal

pub returns-clause-lists : goal.returns-clause-lists
returns-clause-lists c =
    KeepsLists-from_nodes c.args.cells.now.items c.rehash.new.row.items c.rehash.ensures.represents
    (λ k. c.rehash.ensures.nodes k ∙ ap (λ front. front ++ nodes_in c.args.cells.now.items k)
    (nodes_in-empty c.args.size c.in_ok-row.row.items c.in_ok-row.ensures.empty k))
