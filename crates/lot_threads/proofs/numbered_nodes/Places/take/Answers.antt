use Rattle.std.proofs.Common.{None}
use Rattle.std.specs.Option.{is_some}
use Rattle.std.proofs.lemmas.List.{map-set}
use Rattle.lot_threads.proofs.numbered_nodes.Places.take.Goals as goal

pub returns-clause-nodes : goal.returns-clause-nodes
returns-clause-nodes c =
    rw (← c.self.view_is, c.take.ensures.after) (map-set is_some c.self.inside.nodes.items c.args.number None)
